-- The indexes of a state are made apart from what else it has.
use Rattle.std.proofs.Common.{◌≡◌, Bool, true, false, cond, List, [], ◌∷◌, ◌++◌, refl, sym, ◌∙◌, ap}
use Rattle.std.proofs.Common.{append-nil, Option, Some, None, OnOk, Result, Ok, Err}
use Rattle.std.proofs.lemmas.List.{map-append}
use Rattle.std.specs.FinMap.Entries.{find, put}
use Rattle.u1_base.specs.Ids.{id_cmp, same_id}
use Rattle.u1_base.proofs.SameIds.{same_id-itself}
use Rattle.conflicts.specs.Lists.{last_or}
use Rattle.conflicts.specs.Document.{document_after_all}
use Rattle.conflicts.specs.State.{IndexCreated, IndexDeleted, State, Step, Text, accepts_in, after, entries_in}
use Rattle.conflicts.specs.State.{indexes_in, positions_in, state_of}
use Rattle.vector_rev.specs.Counts.{Uid}
use Rattle.doc_table.specs.Listed.{without}
use Rattle.replica_state.specs.Exprs.{IndexTexts}
use Rattle.replica_state.specs.Held.{Heading, Held, Names, meaning, named}
use Rattle.replica_state.specs.Indexes.{HasNoIndex, with_indexes}
use Rattle.replica_state.specs.inner.Named.{name_of, names_of, put_index}
use Rattle.replica_state.specs.declared.index.Index.{Index}
use Rattle.replica_state.proofs.Named.{names_put}
use Rattle.replica_state.proofs.Steps.{drop_name, put_name}

-- ---- no step yet

pub none_made : (s : State) (names : Names) (name : Text) (uid : Uid) → s ≡ state_of name uid [] → names ≡ []
    → with_indexes s names ≡ state_of name uid []
none_made s names name uid is none = λ i. with_indexes (is i) (none i)

pub none_there : (s : Held) (name : Text) (uid : Uid) → meaning s ≡ state_of name uid [] → HasNoIndex s
none_there s name uid is n = λ i. (is i).index n

-- ---- one step more

-- a step that speaks of no index
pub made : (s : State) (x : Step) (names : Names) → ((n : Text) → indexes_in n x ≡ [])
    → with_indexes (after s x) names ≡ after (with_indexes s names) x
made s x names other = λ i. record {
  name = s.name;
  uid = s.uid;
  document = λ d. document_after_all (s.document d) (accepts_in d x);
  log = s.log ++ entries_in x;
  position = λ t u. last_or (s.position t u) (positions_in t u x);
  index = λ n. ap (last_or (find id_cmp n names)) (sym (other n)) i;
}

-- what making it answers
pub answered : {E : Type 0} (r : Result (Unit {0}) E) (s t : State) (x y : Step) (names : Names)
    → OnOk r (t ≡ after s x) → ((n : Text) → indexes_in n x ≡ []) → y ≡ x
    → OnOk r (with_indexes t names ≡ after (with_indexes s names) y)
answered (Ok u) s t x y names is other same =
    ap (λ (z : State). with_indexes z names) is ∙ made s x names other
    ∙ ap (λ (z : Step). after (with_indexes s names) z) (sym same)
answered (Err why) s t x y names is other same = tt

-- a list with an index more
pub created : (s : State) (n : Text) (exprs : List Text) (names : Names)
    → with_indexes s (put id_cmp n exprs names) ≡ after (with_indexes s names) (IndexCreated n exprs)
created s n exprs names = λ i. record {
  name = s.name;
  uid = s.uid;
  document = s.document;
  log = sym (append-nil s.log) i;
  position = s.position;
  index = λ k. put_name k n exprs names i;
}

-- an index that is put in its place
pub listed_one : (x : Index) (new room old : List Index) (n : Text) (exprs : IndexTexts) → new ≡ put_index x room
    → room ≡ old → x.name ≡ n → x.exprs ≡ exprs → names_of new ≡ put id_cmp n exprs.texts (names_of old)
listed_one x new room old n exprs is same name texts =
    ap names_of is ∙ names_put x room ∙ (λ i. put id_cmp (name i) (texts i).texts (names_of (same i)))

-- what listing an index answers
pub listed_more : {E : Type 0} (r : Result (Unit {0}) E) (s : State) (n : Text) (exprs : List Text) (old new : Names)
    (y : Step) → OnOk r (new ≡ put id_cmp n exprs old) → y ≡ IndexCreated n exprs
    → OnOk r (with_indexes s new ≡ after (with_indexes s old) y)
listed_more (Ok u) s n exprs old new y is same =
    ap (with_indexes s) is ∙ created s n exprs old ∙ ap (λ (z : Step). after (with_indexes s old) z) (sym same)
listed_more (Err why) s n exprs old new y is same = tt

-- a list of headings in which no name is found is empty
no_heading : (xs : List Heading) → ((n : Text) → find id_cmp n (named xs) ≡ None) → xs ≡ []
no_heading [] none = refl
no_heading (x ∷ xs) none = absurd (cc (
  ap (λ b. cond b (Some x.exprs) (find id_cmp x.name (named xs))) (same_id-itself x.name),
  none x.name,
))

pub no_headings : (s : Held) → HasNoIndex s → s.collection.indexes ≡ []
no_headings s none = no_heading s.collection.indexes none

-- there is no index still
pub none_kept : (s t : Held) (x : Step) → HasNoIndex s
    → ((n : Text) → indexes_in n x ≡ [] → (meaning t).index n ≡ (meaning s).index n)
    → ((n : Text) → indexes_in n x ≡ []) → HasNoIndex t
none_kept s t x none kept other n = kept n (other n) ∙ none n

-- an index of which the step does not speak
pub unspoken : (s t : State) (x : Step) (n : Text) → t ≡ after s x → indexes_in n x ≡ [] → t.index n ≡ s.index n
unspoken s t x n is none = ap (λ (z : State). z.index n) is ∙ ap (last_or (s.index n)) none

-- a list with an index less
pub deleted : (s : State) (n : Text) (names : Names)
    → with_indexes s (without n names) ≡ after (with_indexes s names) (IndexDeleted n)
deleted s n names = λ i. record {
  name = s.name;
  uid = s.uid;
  document = s.document;
  log = sym (append-nil s.log) i;
  position = s.position;
  index = λ k. drop_name k n names i;
}

-- ---- the indexes at the end

-- the first of two, where it is there
abbrev pub either : {A : Type 0} → Option A → Option A → Option A
either (Some x) o = Some x
either None o = o

-- a state with these indexes over its own
abbrev pub over : State → Names → State
over s names = record {
  name = s.name;
  uid = s.uid;
  document = s.document;
  log = s.log;
  position = s.position;
  index = λ n. either (find id_cmp n names) (s.index n);
}

-- over no indexes
pub over_none : (s : Held) (names : Names) → HasNoIndex s → over (meaning s) names ≡ with_indexes (meaning s) names
over_none s names none = λ i. record {
  name = s.name;
  uid = s.uid;
  document = (meaning s).document;
  log = (meaning s).log;
  position = (meaning s).position;
  index = λ n. (ap (either (find id_cmp n names)) (none n) ∙ itself (find id_cmp n names)) i;
}
  where
    itself : (o : Option (List Text)) → either o None ≡ o
    itself None = refl
    itself (Some x) = refl

-- the last of the list is made first
last_name : (n m : Text) (exprs : List Text) (o : Option (List Text)) (names : Names)
    → either (find id_cmp n names) (last_or o (cond (same_id n m) (Some exprs ∷ []) []))
    ≡ either (find id_cmp n (names ++ (m, exprs) ∷ [])) o
last_name n m exprs o [] = elim (same_id n m) as
    (λ (b : Bool). last_or o (cond b (Some exprs ∷ []) []) ≡ either (cond b (Some exprs) None) o) [
      | true ↦ refl
      | false ↦ refl
    ]
last_name n m exprs o (p ∷ names) = elim (same_id n p.0) as
    (λ (b : Bool). either (cond b (Some p.1) (find id_cmp n names))
    (last_or o (cond (same_id n m) (Some exprs ∷ []) []))
    ≡ either (cond b (Some p.1) (find id_cmp n (names ++ (m, exprs) ∷ []))) o) [
      | true ↦ refl
      | false ↦ last_name n m exprs o names
    ]

pub made_last : (s : State) (x : Index) (xs rest : List Index) → xs ≡ rest ++ x ∷ []
    → over (after s (IndexCreated x.name x.exprs.texts)) (names_of rest) ≡ over s (names_of xs)
made_last s x xs rest e =
    named_last ∙ ap (over s) (sym (ap names_of e ∙ map-append name_of rest (x ∷ [])))
  where
    named_last : over (after s (IndexCreated x.name x.exprs.texts)) (names_of rest)
        ≡ over s (names_of rest ++ name_of x ∷ [])
    named_last = λ i. record {
      name = s.name;
      uid = s.uid;
      document = s.document;
      log = append-nil s.log i;
      position = s.position;
      index = λ n. last_name n x.name x.exprs.texts (s.index n) (names_of rest) i;
    }

-- none is left
pub all_made : (s : State) (xs : List Index) → xs ≡ [] → s ≡ over s (names_of xs)
all_made s xs e = sym (ap (λ (l : List Index). over s (names_of l)) e)
