-- A text at its first separator.
use Rattle.std.proofs.Common.{◌≡◌, ℕ, ◌+◌, ◌<◌, ◌≤◌, ◌≢◌, List, ◌∷◌, ◌++◌, length, get_or, take, drop, get_or-take, take-append-drop, sym, ap, ◌∙◌, arith}
use Rattle.std.specs.List.{AllWithin}
use Rattle.std.proofs.ByRecursion.{All-from_get_or}
use Rattle.std.proofs.lemmas.List.{drop-drop, drop_more, length-take-le}
use Rattle.std.proofs.Math.Seq.{drop-append-add}
use Rattle.text.specs.Lines.{Free, Cut, parts}
use Rattle.text.proofs.Parting.{parts_cut}

pub free_before : (sep : ℕ) (bs : List ℕ) (at : ℕ) → at ≤ length bs → AllWithin (λ b. b ≢ sep) bs 0 at → Free sep (take at bs)
free_before sep bs at le none =
    All-from_get_or (λ b. b ≢ sep) (take at bs) 0 (λ k lt e.
    let low : k < at = omega (arith, length-take-le at bs le) in
    none k 0 (omega arith) low (sym (get_or-take at bs k 0 low) ∙ e))

-- a separator with none in front of it cuts a text there
pub cut_at : (sep : ℕ) (bs : List ℕ) (at : ℕ) → at < length bs → get_or bs at 0 ≡ sep → AllWithin (λ b. b ≢ sep) bs 0 at → Cut sep bs (take at bs) (drop (at + 1) bs)
cut_at sep bs at lt is none = record {
  split = sym (take-append-drop at bs) ∙ ap (λ more. take at bs ++ more) (drop_more bs at 0 lt) ∙ ap (λ b. take at bs ++ (b ∷ drop (at + 1) bs)) is;
  free = free_before sep bs at (omega arith) none;
}

-- what is behind it begins after its byte
pub back_at : (sep at : ℕ) (bs front back : List ℕ) → Cut sep (drop at bs) front back → drop (at + (length front + 1)) bs ≡ back
back_at sep at bs front back is =
    sym (drop-drop (length front + 1) at bs) ∙ ap (drop (length front + 1)) is.split ∙ drop-append-add front (sep ∷ back) 1

-- what is in front of the first separator is the first part
pub parts_at : (sep : ℕ) (bs front back : List ℕ) → Cut sep bs front back → parts sep bs ≡ front ∷ parts sep back
parts_at sep bs front back is = ap (parts sep) is.split ∙ parts_cut sep front back is.free
