-- What a judged window tells: whether the deadline is met, and as a number, 0 where there is none.
use Rattle.std.proofs.Common.{◌≡◌, ℕ, ◌≤◌, ◌⊎◌, is_some, Some, None, Decides, Option, unwrap_or, refl, inl, inr, arith}
use Rattle.std.proofs.lemmas.Bool.{false≢true}
use Rattle.timing.specs.Demand.{Meets, Judged}

module _ (asked : ℕ → ℕ) (jitter deadline : ℕ) where
  pub meets_decided : (r : Option ℕ) → Judged asked jitter deadline r → Decides (is_some r) ((w : ℕ) × Meets asked jitter deadline w)
  meets_decided None judged = (λ e. absurd (false≢true e), λ m. let e = judged.complete m.0 m.1 in cc)
  meets_decided (Some w) judged = (λ _. (w, judged.sound w refl), λ _. refl)

  pub told_from : (r : Option ℕ) → Judged asked jitter deadline r → Meets asked jitter deadline (unwrap_or r 0) ⊎ ((unwrap_or r 0 ≡ 0) × ((w : ℕ) → Meets asked jitter deadline w → ⊥))
  told_from None judged = inr (refl, λ w meets. let e = judged.complete w meets in let z : ◌≡◌ {A = ℕ} 0 1 = cc in omega arith)
  told_from (Some w) judged = inl (judged.sound w refl)

  pub told_within : (r : Option ℕ) → Judged asked jitter deadline r → unwrap_or r 0 ≤ deadline
  told_within None judged = omega arith
  told_within (Some w) judged = omega (arith, (judged.sound w refl).early)
