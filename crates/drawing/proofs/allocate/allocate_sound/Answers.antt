-- `drawing::allocate::allocate_sound` meets the promise of allocate: by what the search found. Assumes nothing.
use Rattle.std.proofs.Common.{ℕ, [], ◌∷◌, Some, Ok, ap, ◌∙◌}
use Rattle.model.specs.Numbers.{paper}
use Rattle.allocation.proofs.AllocateLaws.{search_asked, Searched, handle_asked, given_here, joining_handle_asked, given_joining, none_given}
use Rattle.drawing.proofs.allocate.allocate_sound.Goals as goal
use Rattle.drawing.proofs.allocate.allocate_sound.Goals.{After-find}

-- what is known once the search has ended
searched : (c : After-find)
    → Searched c.args.arena.now c.args.shape.n c.args.shape.r
    c.class_of-class.result c.find.result
searched c = record { allowed = c.requires; class = c.class_of-class.ensures; finds = c.find.ensures }

pub find-requires : goal.find-requires
find-requires c = search_asked c.requires c.class_of-class.ensures

pub given-requires : goal.given-requires
given-requires c =
    handle_asked (searched (goal.at.given-requires c).After-find) (c.in-Some-Here.is ∙ ap Some c.in-Some-Here.field-0-is)

pub given-requires-in-Some-Joins : goal.given-requires-in-Some-Joins
given-requires-in-Some-Joins c =
    joining_handle_asked (searched (goal.at.given-requires-in-Some-Joins c).After-find) (c.in-Some-Joins.is ∙ ap Some c.in-Some-Joins.field-0-is)

pub returns-in-Some-Here : goal.returns-in-Some-Here
returns-in-Some-Here c =
    given_here (searched (goal.at.returns-in-Some-Here c).After-find) (c.in-Some-Here.is ∙ ap Some c.in-Some-Here.field-0-is) _
    (Ok c.given.result) (ap (λ (h : ℕ). paper 0 (h ∷ [])) c.given.ensures) c.give.ensures

pub returns-in-Some-Joins : goal.returns-in-Some-Joins
returns-in-Some-Joins c =
    given_joining (searched (goal.at.returns-in-Some-Joins c).After-find) (c.in-Some-Joins.is ∙ ap Some c.in-Some-Joins.field-0-is) _
    (Ok c.given-in-Some-Joins.result) (ap (λ (h : ℕ). paper 0 (h ∷ [])) c.given-in-Some-Joins.ensures) c.give_joining.ensures

pub returns-in-None : goal.returns-in-None
returns-in-None c = none_given (searched (goal.at.returns-in-None c).After-find) _ c.in-None.is
