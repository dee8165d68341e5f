-- Parts and what is joined from them are the same thing.
use Rattle.std.proofs.Common.{◌≡◌, ℕ, ◌+◌, eqb, List, [], ◌∷◌, ◌++◌, length, sym, refl, ap, ◌∙◌, inl, inr, arith}
use Rattle.std.specs.List.{AllByRecursion, slice_split, onto_first, join_with_byte}
use Rattle.std.proofs.lemmas.List.{append-nil, append_cancel_right}
use Rattle.std.proofs.lemmas.List.Splits.{length-slice_split, join_with_byte-slice_split}
use Rattle.std.proofs.lemmas.Bool.{cases_eq, eq-eqb, ne_eqb}
use Rattle.text.specs.Lines.{newline, Free, separators, ended, before, parts, trailed, joined}

-- parts and what is joined from them in std's words
before_onto : (b : ℕ) (ps : List (List ℕ)) → before b ps ≡ onto_first b ps
before_onto b [] = refl
before_onto b (p ∷ ps) = refl

parts_split : (sep : ℕ) (bs : List ℕ) → parts sep bs ≡ slice_split (λ b. eqb b sep) bs
parts_split sep [] = refl
parts_split sep (b ∷ bs) = rw (before_onto, parts_split sep bs) refl

joined_join : (sep : ℕ) (ps : List (List ℕ)) → joined sep ps ≡ join_with_byte sep ps
joined_join sep [] = refl
joined_join sep (p ∷ []) = append-nil p
joined_join sep (p ∷ (q ∷ ps)) = ap (λ more. p ++ (sep ∷ more)) (joined_join sep (q ∷ ps))

-- there is one part more than there are separators
pub length_parts : (sep : ℕ) (bs : List ℕ) → length (parts sep bs) ≡ separators sep bs + 1
length_parts sep bs = ap length (parts_split sep bs) ∙ length-slice_split (λ b. eqb b sep) bs

pub parts_some : (sep : ℕ) (bs : List ℕ) → parts sep bs ≡ [] → ⊥
parts_some sep bs e = omega (arith, length_parts sep bs, ap length e)

-- without a separator there is one part, and a separator ends the first
pub parts_whole : (sep : ℕ) (bs : List ℕ) → Free sep bs → parts sep bs ≡ bs ∷ []
parts_whole sep [] free = refl
parts_whole sep (b ∷ bs) (apart, free) = rw (ne_eqb b sep apart, parts_whole sep bs free)

pub parts_cut : (sep : ℕ) (bs more : List ℕ) → Free sep bs → parts sep (bs ++ (sep ∷ more)) ≡ bs ∷ parts sep more
parts_cut sep [] more free = rw (eq-eqb sep sep refl)
parts_cut sep (b ∷ bs) more (apart, free) = rw (ne_eqb b sep apart, parts_cut sep bs more free)

-- joined parts come apart again
parts_trailed : (sep : ℕ) (p : List ℕ) (ps : List (List ℕ)) → Free sep p → AllByRecursion (Free sep) ps → parts sep (p ++ trailed sep ps) ≡ p ∷ ps
parts_trailed sep p [] free all = rw (append-nil, parts_whole sep p free)
parts_trailed sep p (q ∷ ps) free (next, all) =
    parts_cut sep p (q ++ trailed sep ps) free ∙ ap (λ (qs : List (List ℕ)). p ∷ qs) (parts_trailed sep q ps next all)

pub parts_joined : (sep : ℕ) (ps : List (List ℕ)) → (ps ≡ [] → ⊥) → AllByRecursion (Free sep) ps → parts sep (joined sep ps) ≡ ps
parts_joined sep [] some all = absurd (some refl)
parts_joined sep (p ∷ ps) some (free, all) = parts_trailed sep p ps free all

-- parts that are joined make up the text again
pub joined_parts : (sep : ℕ) (bs : List ℕ) → joined sep (parts sep bs) ≡ bs
joined_parts sep bs = joined_join sep (parts sep bs) ∙ ap (join_with_byte sep) (parts_split sep bs) ∙ join_with_byte-slice_split sep bs

-- no part has a separator
free_before : (sep b : ℕ) (ps : List (List ℕ)) → (b ≡ sep → ⊥) → AllByRecursion (Free sep) ps → AllByRecursion (Free sep) (before b ps)
free_before sep b [] apart all = ((apart, tt), tt)
free_before sep b (p ∷ ps) apart (free, all) = ((apart, free), all)

pub parts_free : (sep : ℕ) (bs : List ℕ) → AllByRecursion (Free sep) (parts sep bs)
parts_free sep [] = (tt, tt)
parts_free sep (b ∷ bs) =
    elim (cases_eq b sep) [
      | inl e ↦ rw (eq-eqb b sep e) (tt, parts_free sep bs)
      | inr apart ↦ rw (ne_eqb b sep apart) (free_before sep b (parts sep bs) apart (parts_free sep bs))
    ]

-- lines that end in newlines are known from the text
pub parts_ended : (ls : List (List ℕ)) → AllByRecursion (Free newline) ls → parts newline (ended ls) ≡ ls ++ ([] ∷ [])
parts_ended [] all = refl
parts_ended (l ∷ ls) (free, all) = parts_cut newline l (ended ls) free ∙ rw (parts_ended ls all)

pub lines_unique : (ls ms : List (List ℕ)) → AllByRecursion (Free newline) ls → AllByRecursion (Free newline) ms → ended ls ≡ ended ms → ls ≡ ms
lines_unique ls ms f g e = append_cancel_right ls ms ([] ∷ []) (sym (parts_ended ls f) ∙ ap (parts newline) e ∙ parts_ended ms g)
