use Rattle.std.proofs.Common.{refl, ◌∙◌}
use Rattle.std.proofs.lemmas.Bool.{false≢true}
use Rattle.model.proofs.Kept.{kept}
use Rattle.planner.specs.Parts.{state}
use Rattle.planner.proofs.Striding.{stride_passes, stride_fails, walked_on}
use Rattle.planner.proofs.planner.Planner.stride.Goals as goal

pub invariant_of-self-else-next_passes : goal.invariant_of-self-else-next_passes
invariant_of-self-else-next_passes g c = record {
  base = c.skip.ensures.base ∙ c.self.invariant.base;
  places = c.skip.ensures.places ∙ c.self.invariant.places;
  shown_base = c.self.invariant.shown_base;
  shown_places = c.self.invariant.shown_places;
}

pub returns-then-next_passes : goal.returns-then-next_passes
returns-then-next_passes g c =
    let x = state c.self.inside in
    let left = rw (← c.self.view_is) at c.requires in
    let passes = rw (← c.self.view_is) at (c.if-next_passes.ensures.0 refl) in
    let next = rw (← c.self.view_is) at c.next_set.ensures.found in
    rw (← c.self.view_is)
    (λ from n far. walked_on from x _ n far left refl refl
    (stride_passes x.search _ _ _ left passes c.self.invariant.base c.self.invariant.places c.advance.ensures.number next c.cheaper.ensures.found))

pub returns-else-next_passes : goal.returns-else-next_passes
returns-else-next_passes g c =
    let x = state c.self.inside in
    let left = rw (← c.self.view_is) at c.requires in
    let fails = rw (← c.self.view_is) at c.if-next_passes.ensures.1 in
    rw (← c.self.view_is)
    (λ from n far. walked_on from x _ n far left refl refl
    (stride_fails x.search _ (kept c.self.inside.roster).some_step left (λ pass. false≢true (fails pass)) c.self.invariant.base c.self.invariant.places c.skip.ensures.number))
