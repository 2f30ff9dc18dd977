-- A row is a chunk of eight bytes.
use Rattle.std.proofs.Common.{List, [], ℕ, ap, ◌+◌, ◌*◌, ◌∙◌, get_or}
use Rattle.std.specs.Int.{from_be_bytes, w64}
use Rattle.names.proofs.Keys.{be_row}
use Rattle.names.proofs.Table.row.Goals as goal

pub returns : goal.returns
returns c = (
  c.from_be_bytes.ensures ∙ ap (λ (rows : List (List ℕ)). from_be_bytes w64 (get_or rows c.args.row [])) c.as_chunks.ensures.front ∙ be_row c.args.self.rows.now c.args.row c.requires,
  c.octets.ensures (8 * c.args.row + 7),
)
