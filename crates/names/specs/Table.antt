-- The table of operations. RULES 3.6, 3.7: 117 spellings of 99 operations in a fixed-width table, in rising order.
-- An operation's number is its place among the original's operations (RULES 3.6); every one of the 99 has a spelling (Claims: NamesAll).
use Rattle.std.specs.Prelude.{List, [], ◌∷◌, ◌++◌, ℕ, take}
use Prim.Native.String.{String}
use Rattle.lexer.specs.Text.{bytes}

pub record Spelling : Type 0 where
  pub text : String
  pub operation : ℕ

infix 80 ◌is◌
abbrev pub ◌is◌ : String → ℕ → Spelling
s is n = record { text = s; operation = n }

unfoldable pub spellings : List Spelling
spellings =
    "aaa" is 17 ∷ "aad" is 31 ∷ "aam" is 28 ∷ "aas" is 24 ∷ "adc" is 15 ∷ "add" is 14 ∷ "and" is 42 ∷ "call" is 58 ∷ "cbw" is 32 ∷
    "clc" is 86 ∷ "cld" is 89 ∷ "cli" is 91 ∷ "cmc" is 87 ∷ "cmp" is 23 ∷ "cmpsb" is 50 ∷ "cmpsw" is 51 ∷ "cwd" is 33 ∷
    "daa" is 18 ∷ "das" is 25 ∷ "dec" is 21 ∷ "div" is 29 ∷ "esc" is 95 ∷ "hlt" is 93 ∷ "idiv" is 30 ∷ "imul" is 27 ∷ "in" is 4 ∷
    "inc" is 16 ∷ "int" is 81 ∷ "int1" is 82 ∷ "int3" is 83 ∷ "into" is 84 ∷ "iret" is 85 ∷ "ja" is 73 ∷ "jae" is 72 ∷
    "jb" is 64 ∷ "jbe" is 65 ∷ "jc" is 64 ∷ "jcxz" is 80 ∷ "je" is 61 ∷ "jg" is 71 ∷ "jge" is 70 ∷ "jl" is 62 ∷ "jle" is 63 ∷
    "jmp" is 59 ∷ "jna" is 65 ∷ "jnae" is 64 ∷ "jnb" is 72 ∷ "jnbe" is 73 ∷ "jnc" is 72 ∷ "jne" is 69 ∷ "jng" is 63 ∷
    "jnge" is 62 ∷ "jnl" is 70 ∷ "jnle" is 71 ∷ "jno" is 75 ∷ "jnp" is 74 ∷ "jns" is 76 ∷ "jnz" is 69 ∷ "jo" is 67 ∷ "jp" is 66 ∷
    "jpe" is 66 ∷ "jpo" is 74 ∷ "js" is 68 ∷ "jz" is 61 ∷ "lahf" is 10 ∷ "lds" is 8 ∷ "lea" is 7 ∷ "les" is 9 ∷ "lock" is 96 ∷
    "lodsb" is 54 ∷ "lodsw" is 55 ∷ "loop" is 77 ∷ "loope" is 78 ∷ "loopne" is 79 ∷ "loopnz" is 79 ∷ "loopz" is 78 ∷ "mov" is 0 ∷
    "movsb" is 48 ∷ "movsw" is 49 ∷ "mul" is 26 ∷ "neg" is 22 ∷ "nop" is 97 ∷ "not" is 34 ∷ "or" is 44 ∷ "out" is 5 ∷ "pop" is 2 ∷
    "popf" is 13 ∷ "push" is 1 ∷ "pushf" is 12 ∷ "rcl" is 40 ∷ "rcr" is 41 ∷ "rep" is 46 ∷ "repne" is 47 ∷ "repnz" is 47 ∷
    "ret" is 60 ∷ "rol" is 38 ∷ "ror" is 39 ∷ "sahf" is 11 ∷ "salc" is 98 ∷ "sar" is 37 ∷ "sbb" is 20 ∷ "scasb" is 52 ∷
    "scasw" is 53 ∷ "shl" is 35 ∷ "shr" is 36 ∷ "ssb" is 20 ∷ "stc" is 88 ∷ "std" is 90 ∷ "sti" is 92 ∷ "stosb" is 56 ∷
    "stosw" is 57 ∷ "sub" is 19 ∷ "test" is 43 ∷ "wait" is 94 ∷ "xchg" is 3 ∷ "xlatb" is 6 ∷ "xor" is 45 ∷ []

-- A row has eight bytes: up to seven letters, filled up with zeros, and the operation's number.
unfoldable pub row : Spelling → List ℕ
row s = take 7 (bytes s.text ++ (0 ∷ 0 ∷ 0 ∷ 0 ∷ 0 ∷ 0 ∷ 0 ∷ [])) ++ (s.operation ∷ [])

unfoldable pub rows_of : List Spelling → List ℕ
rows_of [] = []
rows_of (s ∷ ss) = row s ++ rows_of ss

-- the table as bytes
unfoldable pub operations : List ℕ
operations = rows_of spellings
