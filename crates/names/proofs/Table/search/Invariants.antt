-- Of a key the seven last bytes are looked for.
use Prim.Native.Nat.{◌-◌, ◌%◌}
use Rattle.names.proofs.Halves.{Bounds}
use Rattle.names.proofs.Table.search.Given as goal

abbrev pub invariant-loop-halving : goal.invariant-loop-halving
invariant-loop-halving l = Bounds l.self.rows.now (l.key % 72057594037927936) l.row l.rows (7 - l._halving)
