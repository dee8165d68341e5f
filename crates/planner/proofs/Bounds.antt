-- What holds of every planner: its parts keep it.
use Rattle.std.proofs.Common.{◌≡◌, ℕ, ◌≤◌, length, Some, None, Option, refl, subst, arith}
use Rattle.model.specs.Of.{of}
use Rattle.model.specs.declared.roster.Roster.{Roster}
use Rattle.model.specs.System.{System}
use Rattle.model.proofs.Kept.{kept}
use Rattle.odometer.specs.Counter.{Counter}
use Rattle.planner.specs.declared.findings.Shown.{Shown}
use Rattle.planner.specs.declared.planner.Planner.TheInside.{Inside}
use Rattle.planner.specs.Parts.{state, Fits}
use Rattle.planner.specs.Search.{Found, search}
use Rattle.planner.specs.Shown.{found, found_in}
use Rattle.planner.specs.State.{InBounds, sets_of}

-- an odometer over the sets of a system stands at one of them, or past the last
within : (s : System) (o : Counter) → o.base ≡ length s.steps → o.places ≡ length s.tasks → o.number ≤ sets_of s
within s o base places = rw (base, places) at o.within

shown_within : {C : Type 0} (s : System) (shown : Option (Shown C)) → ((x : Shown C) → shown ≡ Some x → x.at.base ≡ length s.steps) → ((x : Shown C) → shown ≡ Some x → x.at.places ≡ length s.tasks)
    → (y : Found C) → found_in shown ≡ Some y → y.number ≤ sets_of s
shown_within s None base places y e = let wrong : ⊥ = grind (arith, e) in absurd wrong
shown_within s (Some x) base places y e =
    let same : found x ≡ y = grind (arith, e) in
    subst (λ z. z.number ≤ sets_of s) same (within s x.at (base x refl) (places x refl))

pub in_bounds : {Q C : Type 0} (p : Inside Q C) → Fits p → InBounds (state p)
in_bounds p fits = record {
  keeps = kept p.roster;
  settled = within (of p.roster) p.sets fits.base fits.places;
  shown = shown_within (of p.roster) p.shown fits.shown_base fits.shown_places;
}

-- and so does a planner whose search starts
pub fresh_bounds : {Q C : Type 0} (r : Roster) (test : Q) (n : ℕ) → n ≡ 0 → InBounds {C = C} (record { stands = of r; test = test; search = search n None })
fresh_bounds r test n first = record {
  keeps = kept r;
  settled = omega (arith, first);
  shown = λ y e. let wrong : ⊥ = grind (arith, e) in absurd wrong;
}
