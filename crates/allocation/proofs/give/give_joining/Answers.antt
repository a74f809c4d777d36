-- `allocation::give::give_joining` meets its contract: with the segment that joins, the words are those that document 01 says. Assumes nothing.
use Rattle.allocation.proofs.GiveLaws.{has_head, joining_join, joining_take, joining_is}
use Rattle.allocation.proofs.give.give_joining.Goals as goal

pub segments-n-requires : goal.segments-n-requires
segments-n-requires c = has_head c.args.arena.now c.requires.is_sound

pub join-requires : goal.join-requires
join-requires c =
    let counted = c.segments-n in
    let a = c.args in
    joining_join a.arena.now a.class a.spot a.shape counted.result counted.ensures c.requires

pub take-requires : goal.take-requires
take-requires c =
    let joined = c.join in
    let counted = c.segments-n in
    let a = c.args in
    joining_take a.arena.now a.class a.spot a.shape counted.result counted.ensures c.requires joined.new.arena joined.ensures

pub returns : goal.returns
returns c =
    let taken = c.take in
    let joined = c.join in
    let counted = c.segments-n in
    let a = c.args in
    joining_is a.arena.now a.class a.spot a.shape counted.result counted.ensures c.requires joined.new.arena joined.ensures
    taken.new.arena taken.ensures
