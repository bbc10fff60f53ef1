-- The fields of an instruction's word, what a row fixes in them, and what stands in their places in
-- a source text.
use Rattle.std.specs.Prelude.{ℕ, ◌+◌, ◌*◌, ◌%◌, ◌^◌, List, [], ◌∷◌, map}
use Rattle.ds_word.specs.Word.{bits}

-- a field of a word: its lowest bit, and how many bits
pub record Field : Type 0 where
  pub lo : ℕ
  pub width : ℕ

-- the field of a lowest bit and a width
abbrev pub field : ℕ → ℕ → Field
field lo width = record { lo = lo; width = width }

-- the operation of a word, its top six bits
abbrev pub op : Field
op = field 26 6

-- the number of the first source register
abbrev pub rs : Field
rs = field 21 5

-- the number of the second source register, or of the destination
abbrev pub rt : Field
rt = field 16 5

-- the number of the destination register
abbrev pub rd : Field
rd = field 11 5

-- the number of bits to shift by
abbrev pub shamt : Field
shamt = field 6 5

-- the function, which tells words of operation 0 apart
abbrev pub funct : Field
funct = field 0 6

-- the immediate, the low half of a word
abbrev pub imm : Field
imm = field 0 16

-- the target of a jump, as the number of a word
abbrev pub target : Field
target = field 0 26

-- the code of a call or a breakpoint
abbrev pub code : Field
code = field 6 20

-- the top bit of rs, set in an operation of the system coprocessor
abbrev pub is_operation : Field
is_operation = field 25 1

-- the bits between that one and the function
abbrev pub middle : Field
middle = field 6 19

-- the bits below rd
abbrev pub below_rd : Field
below_rd = field 0 11

-- what a word has in a field
abbrev pub in_word : ℕ → Field → ℕ
in_word w f = bits w f.lo f.width

-- a field that a row fixes, and its value
pub record Fixed : Type 0 where
  pub field : Field
  pub value : ℕ

-- a field with the value that it has to have
abbrev pub fix : Field → ℕ → Fixed
fix f value = record { field = f; value = value }

-- these fields, each with the value 0
abbrev pub zeros_in : List Field → List Fixed
zeros_in fields = map (λ f. fix f 0) fields

-- what stands in an operand's place in a source text
pub data Operand : Type 0 where
  Register : (place : Field) → Operand
  -- a register that may be left out, which is 31
  LinkRegister : (place : Field) → Operand
  -- a register of the system coprocessor
  SystemRegister : (place : Field) → Operand
  -- a number from 0 up
  Number : (place : Field) → Operand
  -- a number from 0 up that may be left out, which is 0
  Code : (place : Field) → Operand
  Signed : (place : Field) → Operand
  -- a label, as the number of words from the slot
  Branch : (place : Field) → Operand
  -- a label, as the number of its word in the region of the slot
  Jump : (place : Field) → Operand
  -- a signed offset and the register of the base
  Indexed : (base offset : Field) → Operand

-- the fields that an operand fills
abbrev pub places : Operand → List Field
places (Register f) = f ∷ []
places (LinkRegister f) = f ∷ []
places (SystemRegister f) = f ∷ []
places (Number f) = f ∷ []
places (Code f) = f ∷ []
places (Signed f) = f ∷ []
places (Branch f) = f ∷ []
places (Jump f) = f ∷ []
places (Indexed base offset) = base ∷ offset ∷ []

-- fields filled with values, each cut to the field's width
abbrev pub filled : List Field → List ℕ → ℕ
filled [] values = 0
filled (f ∷ more) [] = 0
filled (f ∷ more) (v ∷ values) = v % 2 ^ f.width * 2 ^ f.lo + filled more values
