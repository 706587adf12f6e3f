-- Going through the entries, and from the header and the entries to the whole file.
use Rattle.std.proofs.Common.{◌≡◌, ◌≢◌, ℕ, zero, suc, ◌+◌, ◌<◌, ◌≤◌, inl, inr, List, [], ◌∷◌, ◌++◌, length, get_or}
use Rattle.std.proofs.Common.{drop, refl, sym, ◌∙◌, ap, subst, arith, length-append}
use Rattle.std.proofs.lemmas.List.{append-nil, append_assoc, append_cancel_left, drop_more, drop_all}
use Rattle.journal.specs.Image.{Head, IsHeader, ReadsAs, AreBodies, IsBody, body_field, entry, entries, up_to_gate}
use Rattle.journal.specs.Image.{header_bytes}
use Rattle.journal.specs.Damage.{Begins, DamagedAt, IsField}
use Rattle.journal.specs.Damage.Part.{Gate, Body}
use Rattle.journal.specs.inner.Fields.{IsAt, Reached, BreaksAt, NoBody}
use Rattle.journal.proofs.Fields.{length-body_field}
use Rattle.journal.proofs.Places.{at_start, advance, damaged}

pub entries-append : (bs cs : List (List ℕ)) → entries (bs ++ cs) ≡ entries bs ++ entries cs
entries-append [] cs = refl
entries-append (b ∷ bs) cs = ap (λ (l : List ℕ). entry b ++ l) (entries-append bs cs)
    ∙ sym (append_assoc (entry b) (entries bs) (entries cs))

pub entries-push : (bodies : List (List ℕ)) (body : List ℕ)
    → entries (bodies ++ body ∷ []) ≡ entries bodies ++ entry body
entries-push bodies body = entries-append bodies (body ∷ [])
    ∙ ap (λ (l : List ℕ). entries bodies ++ l) (append-nil (entry body))

pub AreBodies-push : (bodies : List (List ℕ)) (body : List ℕ) → AreBodies bodies → IsBody body
    → AreBodies (bodies ++ body ∷ [])
AreBodies-push [] body fit is = (is, tt)
AreBodies-push (b ∷ bodies) body fit is = (fit.0, AreBodies-push bodies body fit.1 is)

pub body_at : (bodies : List (List ℕ)) (k : ℕ) (body d : List ℕ) → AreBodies bodies → k < length bodies
    → body ≡ get_or bodies k d → IsBody body
body_at [] k body d fit h e = absurd (omega (arith, h))
body_at (b ∷ bodies) zero body d fit h e = subst IsBody (sym e) fit.0
body_at (b ∷ bodies) (suc k) body d fit h e = body_at bodies k body d fit.1 (omega (arith, h)) e

pub AreBodies-append : (bodies more : List (List ℕ)) → AreBodies bodies → AreBodies more → AreBodies (bodies ++ more)
AreBodies-append [] more fit are = are
AreBodies-append (b ∷ bodies) more fit are = (fit.0, AreBodies-append bodies more fit.1 are)

pub up_to_gate-append : (format : ℕ) (head : Head) (bodies more : List (List ℕ))
    → up_to_gate format head (bodies ++ more) ≡ up_to_gate format head bodies ++ entries more
up_to_gate-append format head bodies more =
    ap (λ (l : List ℕ). header_bytes format head ++ l) (entries-append bodies more)
    ∙ sym (append_assoc (header_bytes format head) (entries bodies) (entries more))

pub up_to_gate-push : (format : ℕ) (head : Head) (bodies : List (List ℕ)) (body : List ℕ)
    → up_to_gate format head (bodies ++ body ∷ []) ≡ up_to_gate format head bodies ++ entry body
up_to_gate-push format head bodies body =
    ap (λ (l : List ℕ). header_bytes format head ++ l) (entries-push bodies body)
    ∙ sym (append_assoc (header_bytes format head) (entries bodies) (entry body))

pub length-entry : (body : List ℕ) → length (entry body) ≡ 5 + length body
length-entry body = omega (arith, length-body_field body)

pub reached_none : (bodies : List (List ℕ)) (bytes : List ℕ) → bodies ≡ [] → Reached bodies 0 bytes
reached_none bodies bytes e = subst (λ (l : List (List ℕ)). Reached l 0 bytes) (sym e)
    (record { fit = tt; there = at_start bytes; in_range = omega arith })

-- one entry on
pub reached_more : (bodies more : List (List ℕ)) (body bytes : List ℕ) (at next : ℕ) → Reached bodies at bytes
    → at < length bytes → get_or bytes at 0 ≡ 1
    → IsBody body → Begins (body_field body) (drop (at + 1) bytes) → more ≡ bodies ++ body ∷ []
    → next ≡ at + (5 + length body) → Reached more next bytes
reached_more bodies more body bytes at next r low gate is b e n =
    let open_gate : drop at bytes ≡ 1 ∷ drop (at + 1) bytes = drop_more bytes at 0 low
    ∙ ap (λ (g : ℕ). g ∷ drop (at + 1) bytes) gate in
    let begins : Begins (entry body) (drop at bytes) = (b.0, open_gate ∙ ap (λ (l : List ℕ). 1 ∷ l) b.1) in
    let there : IsAt (entries bodies ++ entry body) next bytes =
    advance (entries bodies) (entry body) bytes at next r.there begins (omega (arith, n, length-entry body)) in
    let all : entries more ≡ entries bodies ++ entry body = ap entries e ∙ entries-push bodies body in
    record {
      fit = subst AreBodies (sym e) (AreBodies-push bodies body r.fit is);
      there = subst (λ (l : List ℕ). IsAt l next bytes) (sym all) there;
      in_range = omega (
        arith,
        ap length there.split,
        length-append (entries bodies ++ entry body) (drop next bytes),
        there.there,
      );
    }

-- the rest is cut at the end of the entries
pub reached_end : (bodies : List (List ℕ)) (bytes : List ℕ) (at : ℕ) → Reached bodies at bytes → length bytes ≤ at
    → BreaksAt at bytes
reached_end bodies bytes at r past = (
  bodies,
  r.fit,
  inl (
    r.there.split ∙ ap (λ (l : List ℕ). entries bodies ++ l) (drop_all at bytes past)
        ∙ append-nil (entries bodies),
    sym r.there.there,
  ),
)

-- or the open gate has no body behind it
pub reached_broken : (bodies : List (List ℕ)) (bytes : List ℕ) (at place : ℕ) → Reached bodies at bytes
    → at < length bytes → get_or bytes at 0 ≡ 1
    → NoBody (drop (at + 1) bytes) → place ≡ at + 1 → BreaksAt place bytes
reached_broken bodies bytes at place r low gate none e =
    let open_gate : drop at bytes ≡ 1 ∷ drop (at + 1) bytes = drop_more bytes at 0 low
    ∙ ap (λ (g : ℕ). g ∷ drop (at + 1) bytes) gate in (
      bodies,
      r.fit,
      inr (
        drop (at + 1) bytes,
        r.there.split
            ∙ ap (λ (l : List ℕ). entries bodies ++ l) open_gate,
        omega (arith, e, r.there.there),
        none,
      ),
    )

-- the header, and then the damage of the entries
pub broken_behind : (format : ℕ) (head : Head) (file : List ℕ) (start place : ℕ) → IsHeader format head
    → IsAt (header_bytes format head) start file
    → BreaksAt place (drop start file) → DamagedAt (start + place) file
broken_behind format head file start place is h (bodies, fit, inl (all, end)) =
    let there : IsAt (header_bytes format head ++ entries bodies) (start + place) file =
    advance (header_bytes format head) (entries bodies) file start (start + place) h
    ([], all ∙ sym (append-nil (entries bodies))) (omega (arith, end)) in
    damaged Gate (up_to_gate format head bodies) file (start + place) there
    (record { format = format; head = head; bodies = bodies; header = is; fit = fit; is = refl })
    (λ field f b. absurd (nothing field f b (past there)))
  where
    past : IsAt (up_to_gate format head bodies) (start + place) file → length (drop (start + place) file) ≡ 0
    past there =
        let whole : file ≡ header_bytes format head ++ entries bodies = h.split
        ∙ ap (λ (l : List ℕ). header_bytes format head ++ l) all in
        omega (
          arith,
          ap length there.split,
          ap length whole,
          length-append (up_to_gate format head bodies) (drop (start + place) file),
        )

    nothing : (field : List ℕ) → IsField Gate field → Begins field (drop (start + place) file)
        → length (drop (start + place) file) ≡ 0 → ⊥
    nothing field f b none = absurd (omega (arith, ap length b.1, length-append field b.0, ap length f.1, none))
broken_behind format head file start place is h (bodies, fit, inr (tail, split, end, none)) =
    let with_gate : IsAt (header_bytes format head ++ (entries bodies ++ 1 ∷ [])) (start + place) file =
    advance (header_bytes format head) (entries bodies ++ 1 ∷ []) file start (start + place) h
    (tail, split ∙ sym (append_assoc (entries bodies) (1 ∷ []) tail))
    (omega (arith, end, length-append (entries bodies) (1 ∷ []))) in
    let there : IsAt (up_to_gate format head bodies ++ 1 ∷ []) (start + place) file =
    subst (λ (l : List ℕ). IsAt l (start + place) file)
    (sym (append_assoc (header_bytes format head) (entries bodies) (1 ∷ []))) with_gate in
    damaged Body (up_to_gate format head bodies ++ 1 ∷ []) file (start + place) there
    (record { format = format; head = head; bodies = bodies; header = is; fit = fit; is = refl })
    (λ field f b. none f.0 f.1
    (b.0, sym (tail_is with_gate) ∙ b.1 ∙ ap (λ (l : List ℕ). l ++ b.0) f.2))
  where
    tail_is : IsAt (header_bytes format head ++ (entries bodies ++ 1 ∷ [])) (start + place) file
        → drop (start + place) file ≡ tail
    tail_is there =
        append_cancel_left (header_bytes format head ++ (entries bodies ++ 1 ∷ [])) (drop (start + place) file) tail
        (sym there.split ∙ h.split
        ∙ ap (λ (l : List ℕ). header_bytes format head ++ l) (split ∙ sym (append_assoc (entries bodies) (1 ∷ []) tail))
        ∙ sym (append_assoc (header_bytes format head) (entries bodies ++ 1 ∷ []) tail))

-- the header, and then the entries up to a closed gate
pub reads_behind : (format : ℕ) (head : Head) (bodies : List (List ℕ)) (file : List ℕ) (start gate : ℕ) (rest : List ℕ)
    → IsHeader format head → IsAt (header_bytes format head) start file
    → AreBodies bodies → gate ≢ 1 → drop start file ≡ entries bodies ++ gate ∷ rest → ReadsAs format head bodies file
reads_behind format head bodies file start gate rest is h fit shut split = record {
  gate = gate;
  rest = rest;
  header = is;
  fit = fit;
  shut = shut;
  split = h.split ∙ ap (λ (l : List ℕ). header_bytes format head ++ l) split
      ∙ sym (append_assoc (header_bytes format head) (entries bodies) (gate ∷ rest));
}
