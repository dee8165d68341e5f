-- The item comes in behind the others, and moves to its place.
use Rattle.std.proofs.Common.{arith}
use Rattle.model.specs.Held.{held}
use Rattle.model.proofs.Tables.{moved_in}
use Rattle.model.proofs.table.Table.insert.Goals as goal

pub returns : goal.returns
returns g c =
    let t = c.push.new.self in
    let items = c.as_mut_slice.ensures.value in
    moved_in c.as_mut_slice.result.now (held c.args.self.now) _ c.args.at t.len c.args.item c.requires.within (rw items (omega arith)) (rw items c.push.ensures) c.rotate_right.ensures.after
