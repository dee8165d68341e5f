-- The wheels after a turn to the next multiple of a power.
use Rattle.std.proofs.Common.{◌≡◌, ℕ, zero, suc, ◌+◌, ◌-◌, ◌/◌, ◌%◌, ◌^◌, ◌<◌, ◌≤◌, List, ◌∷◌, ◌++◌, length, get_or, take, set, replicate, sym, ap, ◌∙◌, subst, mul_assoc, mul_comm, add-zero, pow-suc, add-suc, append_assoc, mod-lt, zero-add, get_or-take, arith}
use native.Mathlib.Nat.{div-div-eq-div-mul, sub-zero}
use borrow.Rule.Slice.PartMut.{put_mid}
use Rattle.std.proofs.lemmas.Grind.{common_steps}
use Rattle.std.proofs.lemmas.List.{take_more_set}
use Rattle.odometer.specs.Digits.{digits, next_multiple}
use Rattle.odometer.proofs.Numbers.{front, digit_at, shifted, room, full}

-- the digit with k others after it is full: the next multiple of g ^ k is one of g ^ (k + 1)
next_full : (g k n : ℕ) → n / g ^ k % g + 1 ≡ g → next_multiple g (suc k) n ≡ next_multiple g k n
next_full g k n is =
    let up = full g (n / g ^ k) is in
    rw (pow-suc, ← div-div-eq-div-mul, mul_comm (g ^ k) g, ← mul_assoc, up)

-- so are the b digits before the last k
next_fulls : (g k b n : ℕ) → ((j : ℕ) → j < b → n / g ^ (k + j) % g + 1 ≡ g) → next_multiple g (k + b) n ≡ next_multiple g k n
next_fulls g k zero n full = rw add-zero
next_fulls g k (suc b) n full = rw (add-suc k b) (next_full g (k + b) n (full b (omega arith))) ∙ next_fulls g k b n (λ j less. full j (omega arith))

-- the digit with c others after it has room: it goes on by one, and the others become 0
turned : (g p c n : ℕ) → 0 < g → n / g ^ c % g + 1 < g
    → take p (digits g (suc p + c) n) ++ ((get_or (digits g (suc p + c) n) p 0 + 1) ∷ replicate c 0) ≡ digits g (suc p + c) (next_multiple g c n)
turned g p c n pos has =
    let next = room g (n / g ^ c) has in
    let same : p + suc c ≡ suc p + c = omega arith in
    let before : take p (digits g (suc p + c) n) ≡ digits g p (n / g ^ c / g) = rw same at (front g p (suc c) n) ∙ rw (pow-suc, ← div-div-eq-div-mul) in
    rw (digit_at g p c n, before, shifted g (suc p) c (n / g ^ c + 1) pos, append_assoc) (cc (next.0, next.1))

-- wheels that show n, with a of them before the last k
module _ (g k n a : ℕ) (ws : List ℕ) (pos : 0 < g) (long : a + k ≡ length ws) (shows : ws ≡ digits g (length ws) n) where
  -- the wheel with b others after it
  wheel_at : (i b : ℕ) → suc i + b ≡ length ws → get_or ws i 0 ≡ n / g ^ b % g
  wheel_at i b e = ap (λ (ds : List ℕ). get_or ds i 0) shows ∙ (rw e at (digit_at g i b n))

  -- those from p on to the last k are full
  passed : (p : ℕ) → p ≤ a → ((j : ℕ) → p ≤ j → j < a → g - 1 ≤ get_or (take a ws) j 0) → next_multiple g (length ws - p) n ≡ next_multiple g k n
  passed p le full =
      let e : k + (a - p) ≡ length ws - p = omega arith in
      rw e at (next_fulls g k (a - p) n (λ j less. omega (
        arith,
        full (a - 1 - j) (omega arith) (omega arith),
        get_or-take a ws (a - 1 - j) 0 (omega arith),
        wheel_at (a - 1 - j) (k + j) (omega arith),
        mod-lt (n / g ^ (k + j)) pos,
      )))

  -- wheel p is the last before them that has room
  pub turned_at : (p : ℕ) → p < a → get_or (take a ws) p 0 < g - 1 → ((j : ℕ) → p < j → j < a → g - 1 ≤ get_or (take a ws) j 0)
      → take p ws ++ ((get_or ws p 0 + 1) ∷ replicate (length ws - suc p) 0) ≡ digits g (length ws) (next_multiple g k n)
  turned_at p less has full =
      let e : suc p + (length ws - suc p) ≡ length ws = omega arith in
      let here : n / g ^ (length ws - suc p) % g + 1 < g = omega (arith, get_or-take a ws p 0 less, wheel_at p (length ws - suc p) e) in
      let turn = rw e at (turned g p (length ws - suc p) n pos here) in
      subst (λ ds. take p ds ++ ((get_or ds p 0 + 1) ∷ replicate (length ws - suc p) 0) ≡ digits g (length ws) (next_multiple g k n)) (sym shows)
      (turn ∙ ap (digits g (length ws)) (passed (suc p) (omega arith) (λ j. full j)))

  -- none before them has room
  pub turned_over : ((j : ℕ) → j < a → g - 1 ≤ get_or (take a ws) j 0) → replicate (length ws) 0 ≡ digits g (length ws) (next_multiple g k n)
  turned_over full =
      let all = rw sub-zero at (passed 0 (omega arith) (λ j _. full j)) in
      rw zero-add at (sym (shifted g 0 (length ws) (n / g ^ length ws + 1) pos)) ∙ ap (digits g (length ws)) all

-- one wheel is written, and all after it filled
pub cleared_after : (ws zeros : List ℕ) (p v : ℕ) → p < length ws → zeros ≡ replicate (length ws - suc p) 0
    → put_mid (p + 1) (length (set ws p v) - (p + 1)) (set ws p v) zeros ≡ take p ws ++ v ∷ replicate (length ws - suc p) 0
cleared_after ws zeros p v less is = grind (arith, common_steps, take_more_set ws p v less, is)
