-- Words of a process's memory that are wanted at the end of a run, and the texts that write them.
use Rattle.std.specs.Prelude.{◌≡◌, ◌<◌, ◌≤◌, ◌+◌, ◌*◌, ◌%◌, ◌^◌, ◌&&◌, ◌==◌, nat_le, ℕ, Bool, List, Option, Some, None, bytes_eq, codes, drop, take, length, if◌then◌else◌, option_and_then, option_map}
use Rattle.std.specs.List.{AllZip, after_first, before_first}
use Rattle.clap.specs.Words.{Text}
use Rattle.ds_word.specs.Digits.{digits_from}
use Rattle.ds_words.specs.declared.windows.Window.{Window}
use Rattle.ds_words.specs.declared.windows.Windows.{Windows}

-- the windows that are kept
abbrev pub windows_in : Windows → List Window
windows_in w = take w.count w.all

-- there may be such a window: of a process that may be, of some whole words, which end at 2 ^ 32 or below
pub record IsWindow (w : Window) : Type 0 where
  pub above : 0 < w.process
  pub numbered : w.process ≤ 100
  pub aligned : w.address % 4 ≡ 0
  pub some : 0 < w.count
  pub few : w.count ≤ 1024
  pub within : w.address + 4 * w.count ≤ 2 ^ 32

-- the number that digits of a base write, one or more and at most so many, where it is below 2 ^ 32
abbrev pub digits_of : ℕ → ℕ → Text → Option ℕ
digits_of base most text = if nat_le 1 (length text) && nat_le (length text) most then digits_from base 4294967295 0 text else None

-- an address: one to eight hexadecimal digits, with 0x before them or without
abbrev pub window_address : Text → Option ℕ
window_address text = if bytes_eq (take 2 text) (codes "0x") then digits_of 16 8 (drop 2 text) else digits_of 16 8 text

-- these numbers as a window, where all three are there
abbrev pub window_by : Option ℕ → Option ℕ → Option ℕ → Option Window
window_by process address count =
    option_and_then (λ p. option_and_then (λ a. option_map (λ n. record { process = p; address = a; count = n }) count) address) process

abbrev pub is_colon : ℕ → Bool
is_colon c = c == 58

-- P:ADDRESS:COUNT as numbers: its parts stand around the first colon, and the next
abbrev pub written_window : Text → Option Window
written_window text =
    window_by (digits_of 10 10 (before_first is_colon text)) (window_address (before_first is_colon (after_first is_colon text)))
    (digits_of 10 10 (after_first is_colon (after_first is_colon text)))

-- a text writes a window that there may be
pub record WritesWindow (text : Text) (w : Window) : Type 0 where
  pub written : written_window text ≡ Some w
  pub good : IsWindow w

-- texts write windows, each the one at its place, and there are at most eight
pub record WriteWindows (texts : List Text) (windows : List Window) : Type 0 where
  pub each : AllZip WritesWindow texts windows
  pub few : length windows ≤ 8
