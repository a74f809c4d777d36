-- `allocation::give::give` meets its contract: no segment joins, so the words are those that document 01 says. Assumes nothing.
use Rattle.allocation.proofs.GiveLaws.{has_head, here_take, here_is}
use Rattle.allocation.proofs.give.give.Goals as goal

pub segments-n-requires : goal.segments-n-requires
segments-n-requires c = has_head c.args.arena.now c.requires.is_sound

pub take-requires : goal.take-requires
take-requires c =
    let counted = c.segments-n in
    let a = c.args in
    here_take a.arena.now a.class a.spot a.shape counted.result counted.ensures c.requires

pub returns : goal.returns
returns c =
    let taken = c.take in
    let counted = c.segments-n in
    let a = c.args in
    here_is a.arena.now a.class a.spot a.shape counted.result counted.ensures c.requires taken.new.arena taken.ensures
