use Rattle.std.proofs.Common.{ℕ, ◌<◌, Bool, true, false, length, Decides, MatchBool, refl, zero-add, arith, rules, tests}
use Rattle.std.specs.List.{AllWithin, HoldsAt, range_with_len}
use Rattle.std.proofs.lemmas.Bool.{false≢true}
use Rattle.std.proofs.lemmas.Iterator.{YieldsList-from_range, cases_from_all}
use Rattle.std.proofs.lemmas.List.FromFn.{get_or-range_with_len, length-range_with_len}
use Rattle.model.specs.Of.{of}
use Rattle.timing.specs.Windows.{MeetsAt}
use Rattle.timing.proofs.Judgements.{meets_decided}
use Rattle.timing.proofs.analysis.Analysis.all_meet.Goals as goal

-- an `all` over the numbers below n
below : (r : Bool) (n : ℕ) (P : ℕ → Type 0) → MatchBool r (AllWithin P (range_with_len 0 n) 0 (length (range_with_len 0 n))) ((k : ℕ) × (k < length (range_with_len 0 n)) × HoldsAt (λ i. P i → ⊥) (range_with_len 0 n) k) → Decides r ((i : ℕ) → i < n → P i)
below true n P h = (λ _ i low. rw (get_or-range_with_len, zero-add) at (h i 0 (omega arith) (rw length-range_with_len low)), λ _. refl)
below false n P (k, low, miss) = (λ e. absurd (false≢true e), λ all. absurd (miss 0 (all _ (omega (arith, get_or-range_with_len 0 n k 0 (omega (arith, length-range_with_len 0 n)), length-range_with_len 0 n)))))

pub returns : goal.returns
returns c =
    let s = of c.args.self.now.given.roster.now in
    let Meets = λ (i : ℕ). (w : ℕ) × MeetsAt s c.args.self.now.given.set.now i w in
    rw c.tasks.ensures at (below c.all.result (length c.tasks.result.now) Meets (cases_from_all _ _ _ Meets (λ i. Meets i → ⊥) c.all.ensures.ran (YieldsList-from_range 0 (length c.tasks.result.now) (length c.tasks.result.now) refl (omega arith)) (λ x q k. search (rules, tests, meets_decided)) (λ x q k. search (rules, tests, meets_decided))))
