-- A fold over those elements of a list that a test chooses.
use Rattle.std.proofs.Common.{◌≡◌, ℕ, ◌+◌, ◌<◌, Bool, true, false, cond, List, map, length, get_or, take, fold, filter}
use Rattle.std.proofs.lemmas.List.Elements.{filter_more}
use Rattle.std.proofs.lemmas.List.{append-nil, map_push}
use Rattle.std.proofs.lemmas.List.Sums.{fold_push}

-- one place on, the element there is taken in where it passes the test
pub chosen_more : {X Y Z : Type 0} (f : Z → Y → Z) (z : Z) (g : X → Y) (test : X → Bool) (xs : List X) (i : ℕ) (d : X) (old new : Z) → i < length xs → old ≡ fold f z (map g (filter test (take i xs))) → (b : Bool) → b ≡ test (get_or xs i d) → new ≡ cond b (f old (g (get_or xs i d))) old → new ≡ fold f z (map g (filter test (take (i + 1) xs)))
chosen_more f z g test xs i d old new h so_far true passes is =
    let e = filter_more test xs i d h in
    let m = map_push g (filter test (take i xs)) (get_or xs i d) in
    let p = fold_push f z (map g (filter test (take i xs))) (g (get_or xs i d)) in
    cc
chosen_more f z g test xs i d old new h so_far false fails is =
    let e = filter_more test xs i d h in
    let n = append-nil (filter test (take i xs)) in
    cc
