-- The invariant: the digits that are left, behind the number so far, write the whole number. They are hexadecimal digits, so each is
-- worth what the sum says.
use Rattle.std.proofs.Common.{◌≡◌, true, ◌≤◌, drop}
use Rattle.lexer.specs.Text.{is_hex_digit, all}
use Rattle.lexer.specs.Runs.{radix, valued_from}
use Rattle.lexer.proofs.characters.from_radix.Given as goal

abbrev pub invariant-loop-c : goal.invariant-loop-c
invariant-loop-c l =
    (l.v ≤ 2147483647) × (valued_from l.v l.base (drop l.c-index l.digits) ≡ valued_from 0 (radix l.fn.base) l.digits) × (all is_hex_digit (drop l.c-index l.digits) ≡ true)
