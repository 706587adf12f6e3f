-- A body in the format is passed line by line, and what is passed whole is in the format.
use Rattle.std.proofs.Common.{◌≡◌, ℕ, Bool, true, false, List, [], ◌∷◌, ◌++◌, map, Option, Some, None, bytes_eq, refl}
use Rattle.std.proofs.Common.{sym, ap, ap₂, ◌∙◌, subst}
use Rattle.std.proofs.lemmas.Bool.{cond-true}
use Rattle.std.specs.List.{AllByRecursion}
use Rattle.u1_base.specs.Places.{Place}
use Rattle.sync_stream.specs.Says.{says, trim_start, trim_end, with_head, with_doc}
use Rattle.sync_stream.specs.Stream.{Passes}
use Rattle.sync_stream.specs.Format.{commas, IsBody, IsFitting, head_line, doc_line, has_comma}
use Rattle.std.proofs.lemmas.Option.{cond_some}
use Rattle.std.specs.Cmp.Lexicographic.{bytes_decides}
use Rattle.sync_stream.specs.Stream.{said_by}
use Rattle.sync_stream.specs.declared.line.Passed.{Passed}
use Rattle.sync_stream.specs.declared.line.HeadKind.{HeadKind}
use Rattle.sync_stream.specs.declared.line.Line.{Line}
use Rattle.sync_stream.specs.declared.line.Line.TheVariants.{Head, Doc, End}
use Rattle.sync_stream.specs.declared.line.Next.TheVariants.{Opening, Heading, After, Closed}
use Rattle.sync_stream.specs.declared.line.SyncDoc.{SyncDoc}

-- what `[` and `]` say
opening_says : (kind : HeadKind) (line : List ℕ) → trim_start (trim_end line) ≡ 91 ∷ []
    → says kind Opening line ≡ Some (record { line = None; place = Heading })
unfolding says
opening_says kind line e = cond-true _ _ _ (ap (λ b. bytes_eq b (91 ∷ [])) e)

closing_says : (kind : HeadKind) (line : List ℕ) → trim_start (trim_end line) ≡ 93 ∷ []
    → says kind (After false) line ≡ Some (record { line = Some End; place = Closed })
unfolding says
closing_says kind line e = cond-true _ _ _ (ap (λ b. bytes_eq b (93 ∷ [])) e)

head_says : (kind : HeadKind) (line : List ℕ) (x : Place) → head_line kind line ≡ Some x
    → says kind Heading line ≡ Some (record { line = Some (Head x); place = After (has_comma line) })
unfolding says
head_says kind line x e = ap (with_head (has_comma line)) e

doc_says : (kind : HeadKind) (line : List ℕ) (x : SyncDoc) → doc_line line ≡ Some x
    → says kind (After true) line ≡ Some (record { line = Some (Doc x); place = After (has_comma line) })
unfolding says
doc_says kind line x e = ap (with_doc (has_comma line)) e

head_of : {A : Type 0} {x y : A} {xs ys : List A} → x ∷ xs ≡ y ∷ ys → x ≡ y
head_of e = cc

tail_of : {A : Type 0} {x y : A} {xs ys : List A} → x ∷ xs ≡ y ∷ ys → xs ≡ ys
tail_of e = cc

no_cons : {A : Type 0} {x : A} {xs : List A} → [] ≡ x ∷ xs → ⊥
no_cons e = cc

same_some : {A : Type 0} {x y : A} → Some x ≡ Some y → x ≡ y
same_some e = cc

docs_pass : (kind : HeadKind) (comma : Bool) (lines : List (List ℕ)) (closing : List ℕ) (docs : List SyncDoc)
    → map doc_line lines ≡ map Some docs → comma ∷ map has_comma lines ≡ commas docs
    → trim_start (trim_end closing) ≡ 93 ∷ [] → AllByRecursion IsFitting (lines ++ closing ∷ [])
    → Passes kind (After comma) (lines ++ closing ∷ []) (map Doc docs ++ End ∷ []) Closed
docs_pass kind comma [] closing [] says_ commas_ closes fits = (
  record { line = Some End; place = Closed },
  [],
  record {
    fits = fits.0;
    says =
        subst (λ c. says kind (After c) closing ≡ Some (record { line = Some End; place = Closed }))
        (sym (head_of commas_)) (closing_says kind closing closes);
  },
  refl,
  (refl, refl),
)
docs_pass kind comma [] closing (d ∷ docs) says_ commas_ closes fits = absurd (no_cons says_)
docs_pass kind comma (l ∷ lines) closing [] says_ commas_ closes fits = absurd (no_cons (sym says_))
docs_pass kind comma (l ∷ lines) closing (d ∷ docs) says_ commas_ closes fits = (
  record { line = Some (Doc d); place = After (has_comma l) },
  map Doc docs ++ End ∷ [],
  record {
    fits = fits.0;
    says =
        subst (λ c. says kind (After c) l ≡ Some (record { line = Some (Doc d); place = After (has_comma l) }))
        (sym (head_of commas_)) (doc_says kind l d (head_of says_));
  },
  refl,
  docs_pass kind (has_comma l) lines closing docs (tail_of says_) (tail_of commas_) closes fits.1,
)

-- a body in the format is passed whole, and says its head, its documents and the end
pub body_passes : (kind : HeadKind) (lines : List (List ℕ)) (head : Place) (docs : List SyncDoc)
    → IsBody kind lines head docs → Passes kind Opening lines (Head head ∷ map Doc docs ++ End ∷ []) Closed
body_passes kind lines head docs b =
    let fits = subst (AllByRecursion IsFitting) b.shape b.fits in
    subst (λ ls. Passes kind Opening ls (Head head ∷ map Doc docs ++ End ∷ []) Closed) (sym b.shape) (
      record { line = None; place = Heading },
      Head head ∷ map Doc docs ++ End ∷ [],
      record { fits = fits.0; says = opening_says kind b.opening b.opens },
      refl,
      (
        record { line = Some (Head head); place = After (has_comma b.head_at) },
        map Doc docs ++ End ∷ [],
        record { fits = fits.1.0; says = head_says kind b.head_at head b.heads },
        refl,
        docs_pass kind (has_comma b.head_at) b.doc_lines b.closing docs b.says b.commas b.closes fits.1.1,
      ),
    )

none_is : {x : Passed} → None ≡ Some x → ⊥
none_is e = cc

some_is : {x y : Passed} → Some x ≡ Some y → x ≡ y
some_is e = cc

doc_inverse : (comma : Bool) (o : Option SyncDoc) (passed : Passed) → with_doc comma o ≡ Some passed → (x : SyncDoc)
    × (o ≡ Some x) × (passed ≡ record { line = Some (Doc x); place = After comma })
doc_inverse comma None passed h = absurd (none_is h)
doc_inverse comma (Some x) passed h = (x, refl, sym (some_is h))

head_inverse : (comma : Bool) (o : Option Place) (passed : Passed) → with_head comma o ≡ Some passed → (x : Place)
    × (o ≡ Some x) × (passed ≡ record { line = Some (Head x); place = After comma })
head_inverse comma None passed h = absurd (none_is h)
head_inverse comma (Some x) passed h = (x, refl, sym (some_is h))

doc_back : (kind : HeadKind) (line : List ℕ) (passed : Passed) → says kind (After true) line ≡ Some passed
    → (x : SyncDoc) × (doc_line line ≡ Some x)
    × (passed ≡ record { line = Some (Doc x); place = After (has_comma line) })
unfolding says
doc_back kind line passed h = doc_inverse (has_comma line) (doc_line line) passed h

head_back : (kind : HeadKind) (line : List ℕ) (passed : Passed) → says kind Heading line ≡ Some passed → (x : Place)
    × (head_line kind line ≡ Some x) × (passed ≡ record { line = Some (Head x); place = After (has_comma line) })
unfolding says
head_back kind line passed h = head_inverse (has_comma line) (head_line kind line) passed h

closing_back : (kind : HeadKind) (line : List ℕ) (passed : Passed) → says kind (After false) line ≡ Some passed
    → (trim_start (trim_end line) ≡ 93 ∷ []) × (passed ≡ record { line = Some End; place = Closed })
unfolding says
closing_back kind line passed h =
    ((bytes_decides (trim_start (trim_end line)) (93 ∷ [])).0 (cond_some _ _ _ h).0, sym (cond_some _ _ _ h).1)

opening_back : (kind : HeadKind) (line : List ℕ) (passed : Passed) → says kind Opening line ≡ Some passed
    → (trim_start (trim_end line) ≡ 91 ∷ []) × (passed ≡ record { line = None; place = Heading })
unfolding says
opening_back kind line passed h =
    ((bytes_decides (trim_start (trim_end line)) (91 ∷ [])).0 (cond_some _ _ _ h).0, sym (cond_some _ _ _ h).1)

closed_none : (kind : HeadKind) (line : List ℕ) (passed : Passed) → says kind Closed line ≡ Some passed → ⊥
unfolding says
closed_none kind line passed h = none_is h

no_more : (kind : HeadKind) (lines : List (List ℕ)) (said : List Line) → Passes kind Closed lines said Closed
    → (lines ≡ []) × (said ≡ [])
no_more kind [] said h = (refl, h.0)
no_more kind (l ∷ lines) said h = absurd (closed_none kind l h.0 h.2.says)

not_after : (comma : Bool) → Closed ≡ After comma → ⊥
not_after comma e = cc

-- the documents and the last line of a stream
record Tail (kind : HeadKind) (comma : Bool) (lines : List (List ℕ)) (said : List Line) : Type 0 where
  doc_lines : List (List ℕ)
  closing : List ℕ
  docs : List SyncDoc
  shape : lines ≡ doc_lines ++ closing ∷ []
  given : said ≡ map Doc docs ++ End ∷ []
  says : map doc_line doc_lines ≡ map Some docs
  commas : comma ∷ map has_comma doc_lines ≡ commas docs
  closes : trim_start (trim_end closing) ≡ 93 ∷ []
  fits : AllByRecursion IsFitting lines

tail_back : (kind : HeadKind) (comma : Bool) (lines : List (List ℕ)) (said : List Line)
    → Passes kind (After comma) lines said Closed → Tail kind comma lines said
tail_back kind comma [] said h = absurd (not_after comma h.1)
tail_back kind false (l ∷ lines) said h =
    let here = closing_back kind l h.0 h.2.says in
    let rest = no_more kind lines h.1 (subst (λ p. Passes kind p.place lines h.1 Closed) here.1 h.4) in
    record {
      doc_lines = [];
      closing = l;
      docs = [];
      shape = ap (λ ls. l ∷ ls) rest.0;
      given = h.3 ∙ ap₂ (λ p s. said_by p.line ++ s) here.1 rest.1;
      says = refl;
      commas = refl;
      closes = here.0;
      fits = (h.2.fits, subst (AllByRecursion IsFitting) (sym rest.0) tt);
    }
tail_back kind true (l ∷ lines) said h =
    let here = doc_back kind l h.0 h.2.says in
    let rest = tail_back kind (has_comma l) lines h.1 (subst (λ p. Passes kind p.place lines h.1 Closed) here.2 h.4) in
    record {
      doc_lines = l ∷ rest.doc_lines;
      closing = rest.closing;
      docs = here.0 ∷ rest.docs;
      shape = ap (λ ls. l ∷ ls) rest.shape;
      given = h.3 ∙ ap₂ (λ p s. said_by p.line ++ s) here.2 rest.given;
      says = ap₂ (λ x xs. x ∷ xs) here.1 rest.says;
      commas = ap (λ cs. true ∷ cs) rest.commas;
      closes = rest.closes;
      fits = (h.2.fits, rest.fits);
    }

not_opening : Closed ≡ Opening → ⊥
not_opening e = cc

not_heading : Closed ≡ Heading → ⊥
not_heading e = cc

-- back: what is passed whole is in the format
pub passes_body : (kind : HeadKind) (lines : List (List ℕ)) (said : List Line) → Passes kind Opening lines said Closed
    → (head : Place) × (docs : List SyncDoc) × IsBody kind lines head docs
    × (said ≡ Head head ∷ map Doc docs ++ End ∷ [])
passes_body kind [] said h = absurd (not_opening h.1)
passes_body kind (l ∷ []) said h =
    let here = opening_back kind l h.0 h.2.says in
    absurd (not_heading (subst (λ p. Passes kind p.place [] h.1 Closed) here.1 h.4).1)
passes_body kind (l ∷ m ∷ lines) said h =
    let here = opening_back kind l h.0 h.2.says in
    let next : Passes kind Heading (m ∷ lines) h.1 Closed =
    subst (λ p. Passes kind p.place (m ∷ lines) h.1 Closed) here.1 h.4 in
    let head = head_back kind m next.0 next.2.says in
    let rest = tail_back kind (has_comma m) lines next.1
    (subst (λ p. Passes kind p.place lines next.1 Closed) head.2 next.4) in (
      head.0,
      rest.docs,
      record {
        opening = l;
        head_at = m;
        doc_lines = rest.doc_lines;
        closing = rest.closing;
        shape = ap (λ ls. l ∷ m ∷ ls) rest.shape;
        opens = here.0;
        closes = rest.closes;
        heads = head.1;
        says = rest.says;
        commas = rest.commas;
        fits = (h.2.fits, (next.2.fits, rest.fits));
      },
      h.3 ∙ ap₂ (λ p s. said_by p.line ++ s) here.1 (next.3 ∙ ap₂ (λ p s. said_by p.line ++ s) head.2 rest.given),
    )
