-- The parts of an image that is begun anew.
use Rattle.std.proofs.Common.{◌≡◌, ◌≢◌, ℕ, ◌+◌, ◌<◌, ◌≤◌, ◌⊎◌, inl, inr, ⊎_elim, List, [], ◌∷◌, ◌++◌, length, get_or}
use Rattle.std.proofs.Common.{set, take, drop, refl, sym, ◌∙◌, ap, arith}
use Rattle.std.proofs.lemmas.List.{append-nil, drop_all, drop_more, set-get_or}
use Rattle.std.proofs.lemmas.Bool.{cases_eq}
use Rattle.disk_model.specs.Disk.{Torn, Cut, overwritten}
use Rattle.journal.specs.Image.{Head, first_field, header_bytes, image}
use Rattle.journal.specs.Damage.{Begins, DamagedAt}
use Rattle.journal.specs.Journal.{IsOnTheWay}
use Rattle.journal.specs.inner.Restarting.{IsAnew, IsKeptOrSpoilt, IsSpoilt}
use Rattle.journal.proofs.Fields.{begins_long, length-first_field}
use Rattle.journal.proofs.Places.{no_first}
use Rattle.journal.proofs.Appends.{torn_one}

first_byte_is : (format : ℕ) (file : List ℕ) → Begins (first_field format) file → get_or file 0 0 ≡ 85
unfolding first_field
first_byte_is format file b = ap (λ (l : List ℕ). get_or l 0 0) b.1

-- a spoilt file does not read from its first byte on
pub spoilt_damaged : (file : List ℕ) → IsSpoilt file → DamagedAt 0 file
spoilt_damaged file (inl other) = no_first file (λ format known b. other (first_byte_is format file b))
spoilt_damaged file (inr short) = no_first file
    (λ format known b. absurd
    (omega (arith, short, begins_long (first_field format) file b, length-first_field format)))

pub on_the_way : (old begun : List ℕ) (head : Head) → begun ≡ image 2 head [] → (file : List ℕ) → IsAnew old begun file
    → IsOnTheWay old head file
on_the_way old begun head e file (inl kept) = inl kept
on_the_way old begun head e file (inr (inl spoilt)) = inr (inl (spoilt_damaged file spoilt))
on_the_way old begun head e file (inr (inr new)) = inr (inr (new ∙ e))

pub first_of_image : (head : Head) (bytes : List ℕ) → bytes ≡ image 2 head [] → get_or bytes 0 0 ≡ 85
unfolding header_bytes first_field
first_of_image head bytes e = ap (λ (l : List ℕ). get_or l 0 0) e

not_nothing : (old : List ℕ) → get_or old 0 0 ≡ 85 → 0 < length old
not_nothing [] e = absurd (cc e)
not_nothing (x ∷ old) e = omega arith

-- the torn write of the first byte, where the disk was empty or an image may begin there
pub torn_kept : (old file : List ℕ) → (length old ≡ 0) ⊎ (get_or old 0 0 ≡ 85) → Torn 0 1 old file
    → IsKeptOrSpoilt old file
torn_kept old file (inl empty) t = inr (inr (omega (arith, t.no_longer, empty)))
torn_kept old file (inr first) t =
    ⊎_elim
    (λ e. inl (torn_one 0 old file (not_nothing old first) t ∙ ap (set old 0) (e ∙ sym first) ∙ set-get_or old 0 0))
    (λ ne. inr (inl ne))
    (cases_eq (get_or file 0 0) 85)

pub kept_anew : (old begun file : List ℕ) → IsKeptOrSpoilt old file → IsAnew old begun file
kept_anew old begun file (inl kept) = inl kept
kept_anew old begun file (inr spoilt) = inr (inl spoilt)

-- the cut leaves the first byte
pub cut_anew : (old begun was file : List ℕ) → 1 ≤ length was → get_or was 0 0 ≢ 85 → Cut 1 was file
    → IsAnew old begun file
cut_anew old begun was file some ne c = inr (inl (inl (λ e. ne (sym (c.same 0 (omega arith) some) ∙ e))))

pub alone : (was : List ℕ) → 1 ≤ length was → take 1 was ≡ get_or was 0 0 ∷ []
alone [] some = absurd (omega (arith, some))
alone (x ∷ was) some = refl

-- so does the write behind it
pub rest_anew : (old begun was file : List ℕ) (n x : ℕ) → was ≡ x ∷ [] → x ≢ 85 → Torn 1 n was file
    → IsAnew old begun file
rest_anew old begun was file n x e ne t =
    let first : get_or was 0 0 ≡ x = ap (λ (l : List ℕ). get_or l 0 0) e in
    inr (inl (inl (λ is. ne (sym first ∙ sym (t.same 0 (omega (arith, ap length e)) refl) ∙ is))))

pub rest_written : (was rest : List ℕ) (x : ℕ) → was ≡ x ∷ [] → overwritten was 1 rest ≡ x ∷ rest
rest_written was rest x e =
    ap (λ (l : List ℕ). overwritten l 1 rest) e
    ∙ ap (λ (l : List ℕ). x ∷ [] ++ rest ++ l) (drop_all (1 + length rest) (x ∷ []) (omega arith))
    ∙ append-nil (x ∷ [] ++ rest)

-- the image with its first byte, or a spoilt one
pub last_anew : (old begun was file : List ℕ) (x : ℕ) → was ≡ x ∷ drop 1 begun → 1 ≤ length begun
    → get_or begun 0 0 ≡ 85 → Torn 0 1 was file → IsAnew old begun file
last_anew old begun was file x e some first t =
    ⊎_elim
    (λ is. inr (inr (torn_one 0 was file (omega (arith, ap length e)) t
    ∙ ap (λ (l : List ℕ). set l 0 (get_or file 0 0)) e
    ∙ ap (λ (b : ℕ). b ∷ drop 1 begun) (is ∙ sym first) ∙ sym (drop_more begun 0 0 some))))
    (λ ne. inr (inl (inl ne)))
    (cases_eq (get_or file 0 0) 85)

pub last_written : (begun was : List ℕ) (x : ℕ) → was ≡ x ∷ drop 1 begun → 1 ≤ length begun
    → overwritten was 0 (take 1 begun) ≡ begun
last_written begun was x e some =
    ap (λ (l : List ℕ). overwritten l 0 (take 1 begun)) e
    ∙ ap (λ (l : List ℕ). overwritten (x ∷ drop 1 begun) 0 l) (alone begun some)
    ∙ sym (drop_more begun 0 0 some)
