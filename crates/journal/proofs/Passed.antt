-- An image that was read, and its entries one after the other.
use Rattle.std.proofs.Common.{◌≡◌, ℕ, ◌+◌, ◌<◌, ◌≤◌, List, [], ◌∷◌, ◌++◌, length, take, drop, Ok, Err, refl, sym, ◌∙◌}
use Rattle.std.proofs.Common.{ap, subst, arith, length-append, length-drop}
use Rattle.std.proofs.lemmas.List.{append-nil, append_assoc, drop_at, take_at}
use Rattle.journal.specs.Image.{Head, IsHeader, IsBody, AreBodies, ReadsAs, body_field, entry, entries, header_bytes}
use Rattle.journal.specs.Image.{up_to_gate}
use Rattle.journal.specs.Damage.{Begins, DamagedAt}
use Rattle.journal.specs.inner.Fields.{BreaksAt, EndsEntries, IsAt, NoBody}
use Rattle.journal.specs.Journal.{IsExtent}
use Rattle.journal.specs.Stored.{StoredImage, IsWholeImage, bodies_in, found_bodies, stored_image}
use Rattle.journal.specs.Passing.{HasPassed}
use Rattle.journal.proofs.Fields.{length-body_field}
use Rattle.journal.proofs.Entries.{broken_behind, entries-append, length-entry, reads_behind, up_to_gate-push}
use Rattle.journal.proofs.Readings.{reads_found}
use Rattle.journal.proofs.ReaderFields.{body_same}

-- ---- the image

-- a file that reads as these bodies has just these
pub its_bodies : (format : ℕ) (head : Head) (bodies : List (List ℕ)) (file : List ℕ) → ReadsAs format head bodies file
    → bodies_in file ≡ bodies
its_bodies format head bodies file r = ap found_bodies (reads_found file format head bodies r)

pub whole_image : (format : ℕ) (head : Head) (bodies : List (List ℕ)) (start end : ℕ) (file : List ℕ)
    → ReadsAs format head bodies file
    → length (header_bytes format head) ≡ start → length (up_to_gate format head bodies) ≡ end
    → IsWholeImage format head start end file
whole_image format head bodies start end file r first last =
    let e = sym (its_bodies format head bodies file r) in
    record {
      reads = subst (λ (l : List (List ℕ)). ReadsAs format head l file) e r;
      first = first;
      last = ap (λ (l : List (List ℕ)). length (up_to_gate format head l)) (sym e) ∙ last;
    }

module _ (format : ℕ) (head : Head) (start end : ℕ) (file : List ℕ) (is : IsWholeImage format head start end file) where
  -- the closed gate stands in the file
  pub gate_there : end < length file
  gate_there =
      let r = is.reads in
      omega (
        arith,
        is.last,
        ap length r.split,
        length-append (up_to_gate format head (bodies_in file))
            (r.gate ∷ r.rest),
      )

  pub its_extent : IsExtent format head (bodies_in file) (record { length = end + 1; limit = head.limit })
  its_extent = record { all = ap (λ (n : ℕ). n + 1) (sym is.last); limit = refl }

  -- what stands before it
  pub before_gate : take end file ≡ up_to_gate format head (bodies_in file)
  before_gate =
      let r = is.reads in
      ap (take end) r.split ∙ take_at (up_to_gate format head (bodies_in file)) (r.gate ∷ r.rest) end is.last

-- the header was read, and then the entries up to a closed gate
pub whole_behind : (format : ℕ) (head : Head) (start size : ℕ) (file after : List ℕ) → IsHeader format head
    → IsAt (header_bytes format head) start file
    → after ≡ drop start file → EndsEntries after (Ok size) → IsWholeImage format head start (start + size) file
whole_behind format head start size file after is there e (bodies, fit, n, (gate, rest, shut, split)) =
    whole_image format head bodies start (start + size) file
    (reads_behind format head bodies file start gate rest is there fit shut (sym e ∙ split))
    there.there
    (omega (arith, n, there.there, length-append (header_bytes format head) (entries bodies)))

-- or up to the place where they break
pub broken_in : (format : ℕ) (head : Head) (start place : ℕ) (file after : List ℕ) → IsHeader format head
    → IsAt (header_bytes format head) start file
    → after ≡ drop start file → EndsEntries after (Err place) → DamagedAt (start + place) file
broken_in format head start place file after is there e broken =
    broken_behind format head file start place is there (subst (BreaksAt place) e broken)

-- ---- behind some of its bodies

split_entries : (format : ℕ) (head : Head) (bodies rest : List (List ℕ))
    → up_to_gate format head (bodies ++ rest) ≡ up_to_gate format head bodies ++ entries rest
split_entries format head bodies rest =
    ap (λ (l : List ℕ). header_bytes format head ++ l) (entries-append bodies rest)
    ∙ sym (append_assoc (header_bytes format head) (entries bodies) (entries rest))

its_rest : (bodies rest : List (List ℕ)) → AreBodies (bodies ++ rest) → AreBodies rest
its_rest [] rest fit = fit
its_rest (b ∷ bodies) rest fit = its_rest bodies rest fit.1

module _ (format : ℕ) (head : Head) (all bodies rest : List (List ℕ)) (place end : ℕ) (before : List ℕ)
    (fit : AreBodies all) (is : before ≡ up_to_gate format head all) (last : length (up_to_gate format head all) ≡ end)
    (there : length (up_to_gate format head bodies) ≡ place) (split : all ≡ bodies ++ rest) where
  front : before ≡ up_to_gate format head bodies ++ entries rest
  front = is ∙ ap (up_to_gate format head) split ∙ split_entries format head bodies rest

  size : place + length (entries rest) ≡ end
  size = omega (
    arith,
    ap length front,
    ap length is,
    last,
    there,
    length-append (up_to_gate format head bodies) (entries rest),
  )

  -- nothing is left at the end
  pub at_end : end ≤ place → all ≡ bodies
  at_end past = none rest size split
    where
      none : (r : List (List ℕ)) → place + length (entries r) ≡ end → all ≡ bodies ++ r → all ≡ bodies
      none [] s e = e ∙ append-nil bodies
      none (b ∷ r) s e = absurd (omega (arith, s, past, length-append (entry b) (entries r), length-entry b))

  -- before the end the next body stands behind an open gate
  next_there : place < end → (body : List ℕ) × (more : List (List ℕ)) × (rest ≡ body ∷ more) × IsBody body
      × Begins (body_field body) (drop (place + 1) before)
  next_there low = some rest size front (its_rest bodies rest (subst AreBodies split fit)) refl
    where
      some : (r : List (List ℕ)) → place + length (entries r) ≡ end
          → before ≡ up_to_gate format head bodies ++ entries r → AreBodies r → rest ≡ r
          → (body : List ℕ) × (more : List (List ℕ)) × (rest ≡ body ∷ more) × IsBody body
          × Begins (body_field body) (drop (place + 1) before)
      some [] s f fits e = absurd (omega (arith, s, low))
      some (b ∷ r) s f fits e =
          let gate = up_to_gate format head bodies ++ 1 ∷ [] in
          let behind : before ≡ gate ++ (body_field b ++ entries r) =
          f ∙ sym (append_assoc (up_to_gate format head bodies) (1 ∷ []) (body_field b ++ entries r)) in (
            b,
            r,
            e,
            fits.0,
            (
              entries r,
              ap (drop (place + 1)) behind
                  ∙ drop_at gate (body_field b ++ entries r) (place + 1)
                  (omega (arith, there, length-append (up_to_gate format head bodies) (1 ∷ []))),
            ),
          )

  pub never_none : place < end → NoBody (drop (place + 1) before) → ⊥
  never_none low none = let n = next_there low in none n.0 n.3 n.4

  pub one_on : (body : List ℕ) → place < end → IsBody body → Begins (body_field body) (drop (place + 1) before)
      → (more : List (List ℕ)) × (all ≡ (bodies ++ body ∷ []) ++ more)
  one_on body low isb b =
      let n = next_there low in
      let same : body ≡ n.0 = body_same body n.0 (drop (place + 1) before) (isb, b) n.3 n.4 in (
        n.1,
        split ∙ ap (λ (l : List (List ℕ)). bodies ++ l) (n.2 ∙ ap (λ (l : List ℕ). l ∷ n.1) (sym same))
            ∙ sym (append_assoc bodies (body ∷ []) n.1),
      )

pub one_further : (format : ℕ) (head : Head) (bodies : List (List ℕ)) (body : List ℕ) (place : ℕ)
    → length (up_to_gate format head bodies) ≡ place
    → length (up_to_gate format head (bodies ++ body ∷ [])) ≡ place + 5 + length body
one_further format head bodies body place there =
    omega (
      arith,
      there,
      ap length (up_to_gate-push format head bodies body),
      length-append (up_to_gate format head bodies) (entry body),
      length-entry body,
    )

-- ---- what stands at a place

module _ (format : ℕ) (head : Head) (start end : ℕ) (file : List ℕ) (is : IsWholeImage format head start end file)
    (image : StoredImage)
    (e : stored_image format head end file ≡ image) (place : ℕ) (before : List ℕ) (lent : before ≡ take end file) where
  length-before : length before ≡ end
  length-before = ap length (lent ∙ before_gate format head start end file is) ∙ is.last

  of_view : (P : StoredImage → Type 0) → P (stored_image format head end file) → P image
  of_view P p = subst P e p

  pub meets_end : length before ≤ place → (bodies : List (List ℕ)) → HasPassed image bodies place
      → image.bodies ≡ bodies
  meets_end past = of_view (λ (m : StoredImage). (bodies : List (List ℕ)) → HasPassed m bodies place
      → m.bodies ≡ bodies) (λ bodies p.
      at_end format head (bodies_in file) bodies p.rest place end before is.reads.fit
      (lent ∙ before_gate format head start end file is) is.last p.there p.split
      (omega (arith, past, length-before)))

  pub meets_none : place < length before → NoBody (drop (place + 1) before) → (bodies : List (List ℕ))
      → HasPassed image bodies place → image.bodies ≡ bodies
  meets_none low none = of_view (λ (m : StoredImage). (bodies : List (List ℕ)) → HasPassed m bodies place
      → m.bodies ≡ bodies) (λ bodies p.
      absurd (never_none format head (bodies_in file) bodies p.rest place end before is.reads.fit
      (lent ∙ before_gate format head start end file is) is.last p.there p.split
      (omega (arith, low, length-before)) none))

  pub meets_body : (body : List ℕ) (next : ℕ) → place < length before → IsBody body
      → Begins (body_field body) (drop (place + 1) before) → next ≡ place + 5 + length body
      → (bodies : List (List ℕ)) → HasPassed image bodies place → HasPassed image (bodies ++ body ∷ []) next
  meets_body body next low isb b n = of_view (λ (m : StoredImage). (bodies : List (List ℕ)) → HasPassed m bodies place
      → HasPassed m (bodies ++ body ∷ []) next) (λ bodies p.
      let on = one_on format head (bodies_in file) bodies p.rest place end before is.reads.fit
      (lent ∙ before_gate format head start end file is) is.last p.there p.split
      body (omega (arith, low, length-before)) isb b in
      record { there = one_further format head bodies body place p.there ∙ sym n; rest = on.0; split = on.1 })

  pub below_gate : (body : List ℕ) → place < length before → Begins (body_field body) (drop (place + 1) before)
      → place + 5 + length body < image.journal.length
  below_gate body low b = of_view (λ (m : StoredImage). place + 5 + length body < m.journal.length)
      (omega (
        arith,
        length-before,
        ap length b.1,
        length-append (body_field body) b.0,
        length-body_field body,
        length-drop (place + 1) before,
        low,
      ))
