-- The places of a list behind its set count for nothing.
use Rattle.std.proofs.Common.{◌≡◌, ℕ, ◌+◌, ◌⊎◌, List, [], ◌∷◌, map, length, get_or, take, subst, refl, ap, ⊎_elim, arith}
use Rattle.std.specs.List.{zip, AllByRecursion}
use Rattle.std.proofs.lemmas.List.{get_or-take, length-take}
use Rattle.model.specs.declared.kinds.Section.{Section}
use Rattle.model.specs.declared.refusals.CallRefusal.{CallRefusal}
use Rattle.model.specs.declared.refusals.CallRefusal.TheVariants.{ShortList, NoSuchStep}
use Rattle.model.specs.Lookup.{rank}
use Rattle.model.specs.Refusals.{call_number, First}
use Rattle.model.specs.System.{System, Keeps, Owned}
use Rattle.model.proofs.Lookups.{sought}
use Rattle.timing.specs.declared.demand.Load.{Load}
use Rattle.timing.specs.declared.holds.Hold.{Hold}
use Rattle.timing.specs.Demand.{demand, Meets}
use Rattle.timing.specs.Times.{IsSet, front, load, loads, hold, holds, blocking}
use Rattle.timing.specs.Windows.{task, idle, SetRule, Told}

pub zip_front : {K X : Type 0} (ks : List K) (xs : List X) → zip ks (take (length ks) xs) ≡ zip ks xs
zip_front [] xs = refl
zip_front (k ∷ ks) [] = refl
zip_front (k ∷ ks) (x ∷ xs) = ap (λ ps. (k, x) ∷ ps) (zip_front ks xs)

loads_front : (s : System) (list : List ℕ) → loads s (front s list) ≡ loads s list
loads_front s list = ap (map (load s)) (zip_front s.tasks list)

-- the owner of a section stands, so its step is at the front
hold_front : (s : System) (list : List ℕ) (c : Section) → Keeps s → Owned s.tasks c → hold s (front s list) c ≡ hold s list c
hold_front s list c k owned =
    ⊎_elim
    (λ hit. rw (get_or-take (length s.tasks) list (rank c.owner s.tasks) 0 hit.0.0) refl)
    (λ miss. absurd (rw miss.1 at owned))
    (sought s.tasks c.owner k.rising)

holds_front : (s : System) (list : List ℕ) (cs : List Section) → Keeps s → AllByRecursion (Owned s.tasks) cs → map (hold s (front s list)) cs ≡ map (hold s list) cs
holds_front s list [] k owned = refl
holds_front s list (c ∷ cs) k (owned, rest) = rw (hold_front s list c k owned, holds_front s list cs k rest) refl

-- `Told`, of the loads and the holds that a set makes
abbrev ToldBy : System → ℕ → ℕ → List Load → List Hold → Type 0
ToldBy s i v ls hs =
    Meets (demand ((get_or ls i idle).time + blocking (task s i).priority hs) (take i ls)) (task s i).jitter (task s i).deadline v
    ⊎ ((v ≡ 0) × ((w : ℕ) → Meets (demand ((get_or ls i idle).time + blocking (task s i).priority hs) (take i ls)) (task s i).jitter (task s i).deadline w → ⊥))

pub told_front : (s : System) (list : List ℕ) (i v : ℕ) → Keeps s → Told s (front s list) i v → Told s list i v
told_front s list i v k told =
    subst (λ ls. ToldBy s i v ls (holds s list)) (loads_front s list)
    (subst (ToldBy s i v (loads s (front s list))) (holds_front s list s.sections k k.owned) told)

-- a list that is refused stands for no set
pub refused : (s : System) (list : List ℕ) (e : CallRefusal) → First call_number (SetRule s list) e → IsSet s (front s list) → ⊥
refused s list ShortList first isset = first.broken (omega (arith, isset.whole, length-take (length s.tasks) list))
refused s list NoSuchStep first isset = first.broken isset.named
