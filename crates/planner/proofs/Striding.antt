-- From what the odometer and the roster say to the strides of a search.
use Rattle.std.proofs.Common.{◌≡◌, ℕ, suc, ◌+◌, ◌<◌, ◌≤◌, min, List, length, Some, sym, ap, ◌∙◌, subst, add-one, arith}
use Rattle.std.proofs.lemmas.List.{take_all}
use Rattle.model.specs.System.{System}
use Rattle.odometer.specs.Digits.{digits, total, Zeros, next_multiple}
use Rattle.odometer.proofs.Numbers.{length_digits}
use Rattle.odometer.proofs.Skips.{next_one}
use Rattle.schedulability.specs.declared.test.Test as tests
use Rattle.timing.specs.Times.{front}
use Rattle.planner.specs.Rates.{Rates}
use Rattle.planner.specs.declared.events.Progress.{Progress}
use Rattle.planner.specs.Calls.{Moved}
use Rattle.planner.specs.Search.{Problem, Found, Search, search, sets, cheaper, looked_at, Stride, Strides, passed, onward, mark_of}
use Rattle.planner.specs.State.{State, problem, set_of, sets_of, sought, Walked}
use Rattle.planner.proofs.Searches.{ran, stride_skips, zeros_exist}

-- the digits of an odometer that fits a system are a set of it
pub set_at : (s : System) (g t n : ℕ) (list : List ℕ) → list ≡ digits g t n → g ≡ length s.steps → t ≡ length s.tasks → list ≡ set_of s n
set_at s g t n list is base places = is ∙ (λ i. digits (base i) (places i) n)

-- and stand for themselves
pub front_set : (s : System) (n : ℕ) (list : List ℕ) → list ≡ set_of s n → front s list ≡ set_of s n
front_set s n list is =
    let long : length list ≤ length s.tasks = omega (arith, ap length is, length_digits (length s.steps) (length s.tasks) n) in
    take_all (length s.tasks) list long ∙ is

-- a set that passes: on by one, with the cheaper of it and what was shown
pub stride_passes : {C : Type 0} {p : Problem C} (x : Search C) {g t : ℕ} (next : ℕ) (new shown : Found C) → x.settled < sets p → p.Passes x.settled → g ≡ p.steps → t ≡ p.tasks → next ≡ min (next_multiple g 0 x.settled) (total g t) → new ≡ looked_at p x.settled → shown ≡ cheaper p.leq x.shown new → Stride p x (search next (Some shown))
stride_passes {p = p} x {g} {t} next new shown left passes base places number looked is =
    let all : total g t ≡ sets p = λ i. total (base i) (places i) in
    let one : x.settled + 1 ≡ next = omega (arith, left, all, number, next_one g x.settled) in
    let same : cheaper p.leq x.shown (looked_at p x.settled) ≡ shown = sym (is ∙ ap (cheaper p.leq x.shown) looked) in
    subst (Stride p x) (λ i. search (one i) (Some (same i))) (passed passes)

-- a set that fails: on by the skip
pub stride_fails : {C : Type 0} {p : Problem C} (x : Search C) {g t : ℕ} (next : ℕ) → 1 ≤ p.steps → x.settled < sets p → (p.Passes x.settled → ⊥) → g ≡ p.steps → t ≡ p.tasks → ((z : ℕ) → Zeros g t x.settled z → next ≡ min (next_multiple g (z + 1) x.settled) (total g t)) → Stride p x (search next x.shown)
stride_fails {p = p} x {g} {t} next some left fails base places number =
    let skip : (z : ℕ) → Zeros p.steps p.tasks x.settled z → next ≡ min (next_multiple p.steps (z + 1) x.settled) (sets p) =
    subst (λ b. (z : ℕ) → Zeros b p.tasks x.settled z → next ≡ min (next_multiple b (z + 1) x.settled) (total b p.tasks)) base
    (subst (λ k. (z : ℕ) → Zeros g k x.settled z → next ≡ min (next_multiple g (z + 1) x.settled) (total g k)) places number) in
    let zeros = zeros_exist p.steps p.tasks x.settled in
    stride_skips p x next some left fails zeros.0 zeros.1 (skip zeros.0 zeros.1)

module _ {Q C : Type 0} {q : tests.Ghosts Q} {t : Rates C} where
  pub walked_on : (x y z : State Q C) (n : ℕ) → Walked q t x n y → y.search.settled < sets (sought q t y) → z.stands ≡ y.stands → z.test ≡ y.test → Stride (sought q t y) y.search z.search → Walked q t x (n + 1) z
  walked_on x y z n far left stands test stride =
      let same : sought q t y ≡ sought q t x = λ i. problem q t (far.stands i) (far.test i) in
      let count : suc n ≡ n + 1 = omega (arith, add-one n) in
      record {
        stands = stands ∙ far.stands;
        test = test ∙ far.test;
        strides = subst (λ k. Strides (sought q t x) x.search k z.search) count (onward far.strides (subst (λ p. y.search.settled < sets p) same left) (subst (λ p. Stride p y.search z.search) same stride));
      }

  -- a walk within its allowance, and the answer that tells of it, are a plan call
  pub moved : (x y : State Q C) (allowance n : ℕ) (answer : Progress) → Walked q t x n y → n ≤ allowance → (n < allowance → y.search.settled ≡ sets_of y.stands) → answer.strides ≡ n → answer.settled ≡ y.search.settled → answer.mark ≡ mark_of (sets_of y.stands) y.search → Moved q t x allowance answer y
  moved x y allowance n answer walk few whole strides settled mark =
      let p = sought q t x in
      let all : sets_of y.stands ≡ sets p = ap sets_of walk.stands in
      record {
        stands = walk.stands;
        test = walk.test;
        ran = ran p x.search y.search allowance answer
            (subst (λ k. Strides p x.search k y.search) (sym strides) walk.strides)
            (omega (arith, few, strides))
            (λ less. whole (omega (arith, less, strides)) ∙ all)
            settled
            (mark ∙ ap (λ k. mark_of k y.search) all);
      }
