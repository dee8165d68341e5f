-- What the calls of a table do to its list.
use Rattle.std.proofs.Common.{◌≡◌, ℕ, ◌+◌, ◌-◌, ◌≤◌, List, [], ◌∷◌, ◌++◌, length, take, drop, refl, ap, sym, ◌∙◌, arith, length-append, length-drop}
use Rattle.std.proofs.lemmas.List.{drop-append-le, drop_at, drop-take, length-take-le, take-append-le, take-take, take_at}
use Rattle.std.proofs.lemmas.Slice.{take-put_mid}
use Rattle.std.specs.List.{insert}
use borrow.Rule.Slice.PartMut.{mid_of, put_mid}
use Rattle.model.specs.Held.{held}
use Rattle.model.specs.declared.table.Table.{Table}

-- a table holds as many items as its length says
pub length_held : {T : Type 0} {N : ℕ} (t : Table T N) → length (held t) ≡ t.len
length_held t = length-take-le t.len t.items (omega arith)

-- a part that ends in x, turned by one
turned : {X : Type 0} (part old ys : List X) (x : X) → part ≡ old ++ (x ∷ [])
    → ys ≡ drop (length part - 1) part ++ take (length part - 1) part → ys ≡ x ∷ old
turned part old ys x is after =
    let len : length part - 1 ≡ length old = omega (arith, ap length is, length-append old (x ∷ [])) in
    let back = drop_at old (x ∷ []) (length old) refl in
    let front = take_at old (x ∷ []) (length old) refl in
    cc

-- the last of the first n items, moved to place `at`
pub moved_in : {X : Type 0} (xs old ys : List X) (at n : ℕ) (x : X) → at ≤ length old → n ≤ length xs
    → take n xs ≡ old ++ (x ∷ [])
    → ys ≡ drop (length (mid_of at (n - at) xs) - 1) (mid_of at (n - at) xs) ++ take (length (mid_of at (n - at) xs) - 1) (mid_of at (n - at) xs)
    → take n (put_mid at (n - at) xs ys) ≡ insert old at x
moved_in xs old ys at n x le within is after =
    let len : n ≡ length old + 1 = omega (arith, ap length is, length-append old (x ∷ []), length-take-le n xs within) in
    let sum : at + (n - at) ≡ n = omega arith in
    let part : mid_of at (n - at) xs ≡ drop at old ++ (x ∷ []) =
    sym (drop-take at (n - at) xs) ∙ ap (λ k. drop at (take k xs)) sum ∙ ap (drop at) is ∙ drop-append-le at old (x ∷ []) le in
    let rotated = turned (mid_of at (n - at) xs) (drop at old) ys x part after in
    let size : n ≡ at + length ys = omega (arith, ap length rotated, length-drop at old) in
    let front : take at xs ≡ take at old = sym (take-take at n xs (omega arith)) ∙ ap (take at) is ∙ take-append-le at old (x ∷ []) le in
    let put = take-put_mid at (n - at) xs ys n size (omega arith) in
    cc
