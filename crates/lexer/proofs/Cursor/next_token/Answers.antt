-- The kind and value of a scan keep the whole token.
use mathlib.Core.List.{List}
use Prim.Native.Nat.{ℕ, ◌<◌}
use mathlib.Core.Path.{◌≡◌, sym, ap, ◌∙◌}
use lib.ListN.{get_or, drop}
use Rattle.lexer.specs.Tokens.{token_at}
use Rattle.lexer.specs.Scanned.{scanned_of, next_of}
use Rattle.lexer.specs.declared.Scanned.{Scanned}
use Rattle.lexer.proofs.Nested.{kept_at, answered, next_from, back}
use Rattle.lexer.proofs.Cursor.next_token.Goals as goal

whole : (s : List ℕ) (at : ℕ) (r : Scanned) → get_or s at 0 < 256 → r ≡ scanned_of at (token_at (drop at s)) → next_from at r ≡ next_of at (token_at (drop at s))
whole s at r byte e = ap (next_from at) e ∙ back at (kept_at s at byte)

pub returns-in-Ok : goal.returns-in-Ok
returns-in-Ok c =
    ap (answered c.args.self.pos c.scan-scanned.result.end) (sym c.in-Ok.is ∙ c.token.ensures)
    ∙ whole c.args.source.now c.args.self.pos c.scan-scanned.result (c.type_inv.source c.args.self.pos).fits c.scan-scanned.ensures

pub returns-in-Err : goal.returns-in-Err
returns-in-Err c =
    ap (answered c.args.self.pos c.scan-scanned.result.end) (sym c.in-Err.is ∙ c.token.ensures)
    ∙ whole c.args.source.now c.args.self.pos c.scan-scanned.result (c.type_inv.source c.args.self.pos).fits c.scan-scanned.ensures
