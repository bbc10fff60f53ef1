use Rattle.std.proofs.Common.{◌≡◌, ◌-◌, ◌++◌}
use Rattle.ds_gdb.specs.Each.{each}
use Rattle.ds_gdb.specs.Threads.{listed_thread, threads_text}
use Rattle.ds_gdb.proofs.threads.push_threads.Given as goal

-- what is written, and the names that are left
abbrev pub invariant-loop-index : goal.invariant-loop-index
invariant-loop-index l = l.text.items ++ each listed_thread l.index (l.count - l.index) ≡ l.fn.text.items ++ threads_text l.count
