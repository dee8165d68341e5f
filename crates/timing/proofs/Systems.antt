-- What the rules of a system give its times under a set.
use Rattle.std.proofs.Common.{◌≡◌, ℕ, ◌+◌, ◌*◌, ◌<◌, ◌≤◌, List, [], ◌∷◌, ◌++◌, map, length, get_or, take, sym, ap, ◌∙◌, lt_of_mul-lt-mul_right, arith}
use Rattle.std.proofs.ByRecursion.{All-get_or}
use Rattle.std.proofs.lemmas.List.{map_more}
use Rattle.model.specs.Bounds.{min_clock, max_cycles}
use Rattle.model.specs.Records.{InRange}
use Rattle.model.specs.System.{System, Keeps}
use Rattle.timing.specs.Bounds.{max_time}
use Rattle.timing.specs.Times.{clock, time}
use Rattle.model.proofs.Quotients.{up_covers, up_least}

-- a loop that appends f x for each item x of a list
pub next_mapped : {X Y : Type 0} (f : X → Y) (xs : List X) (done : List Y) (i : ℕ) (d : X) (v : Y) → i < length xs → done ≡ map f (take i xs) → v ≡ f (get_or xs i d) → done ++ (v ∷ []) ≡ map f (take (i + 1) xs)
next_mapped f xs done i d v low so_far is =
    ap (λ ys. ys ++ (v ∷ [])) so_far
    ∙ ap (λ y. map f (take i xs) ++ (y ∷ [])) is
    ∙ sym (map_more f xs i d low)

pub time_fits : (cycles khz : ℕ) → cycles ≤ max_cycles → min_clock ≤ khz → time cycles khz ≤ max_time
time_fits cycles khz few fast = up_least (cycles * 1000) khz max_time (omega arith) (omega arith)

pub time_some : (cycles khz : ℕ) → 1 ≤ cycles → min_clock ≤ khz → 1 ≤ time cycles khz
time_some cycles khz some fast =
    let pos : 0 * khz < time cycles khz * khz = omega (arith, up_covers (cycles * 1000) khz (omega arith)) in
    lt_of_mul-lt-mul_right khz pos

pub clock_fast : (s : System) (g : ℕ) → Keeps s → g < length s.steps → min_clock ≤ clock s g
clock_fast s g k low = (All-get_or InRange s.steps g (record { clock = 0; voltage = 0 }) low k.in_range).0
