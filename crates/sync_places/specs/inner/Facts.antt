-- What holds between a source a and a target b: of places, of what is on its way between them, and of what one of them
-- is about to do.
use Rattle.std.specs.Prelude.{◌≡◌, ℕ, ◌+◌, ◌<◌, ◌≤◌, ◌⊎◌, true, false, List, [], ◌∷◌, length, Some}
use Rattle.u1_base.specs.Places.{Place}
use Rattle.translog.specs.Log.{FitsLog}
use Rattle.vector_rev.specs.Counts.{Uid}
use Rattle.vector_rev.specs.Clock.{Clock, covers, dominates}
use Rattle.conflicts.specs.Lists.{In}
use Rattle.conflicts.specs.Document.{Document}
use Rattle.conflicts.specs.Laws.{IsDocument}
use Rattle.conflicts.specs.State.{State, Step, Text, move_of, position_kept}
use Rattle.conflicts.specs.declared.member.Member.{Member}
use Rattle.conflicts.specs.declared.moves.Move.{Move}
use Rattle.conflicts.specs.declared.moves.PosTable.{PosTable}
use Rattle.conflicts.specs.declared.moves.PosTable.TheVariants.{Known}
use Rattle.sync_stream.specs.Serving.{Held}
use Rattle.sync_stream.specs.declared.line.SyncDoc.{SyncDoc}
use Rattle.sync_places.specs.inner.Last.{last_of}

-- a member covers the revision
abbrev pub CoversRev : Document → Clock → Type 0
CoversRev d r = (m : Member) × In m d.members × (covers m.rev r ≡ true)

-- a member is not older than the revision
abbrev pub NotOlder : Document → Clock → Type 0
NotOlder d r = (m : Member) × In m d.members × (dominates r m.rev ≡ false)

abbrev pub AllDocuments : State → Type 0
AllDocuments s = (d : Text) → IsDocument (s.document d)

-- ---- one state after another

-- a step takes no place back
abbrev pub MovesOn : State → Step → Type 0
MovesOn s x = (m : Move) → move_of x ≡ Some m → (position_kept s m.table m.uid).generation ≤ m.at.generation

-- t is a state that s may become
pub record Later (s t : State) : Type 0 where
  pub log : length s.log ≤ length t.log
  pub fits : (p : Place) → FitsLog s.log p → FitsLog t.log p
  pub documents : (d : Text)
      → ((last_of t d ≡ last_of s d) × (t.document d ≡ s.document d)) ⊎ (length s.log < last_of t d)
  pub places : (table : PosTable) (u : Uid)
      → (position_kept s table u).generation ≤ (position_kept t table u).generation
  pub covered : (d : Text) (r : Clock) → CoversRev (s.document d) r → CoversRev (t.document d) r
  pub not_older : (d : Text) (r : Clock) → NotOlder (s.document d) r → NotOlder (t.document d) r

-- ---- places of a pair

-- a has what b's log says up to the place
pub record KnownUpTo (a b : State) (p : Place) : Type 0 where
  pub fits : FitsLog b.log p
  pub known : (d : Text) (r : Clock) → 1 ≤ last_of b d → last_of b d ≤ p.generation
      → (b.document d).current ≡ Some r → CoversRev (a.document d) r

-- b has nothing older than what a's log says up to the generation
pub record ToldTo (a b : State) (upto : ℕ) : Type 0 where
  pub within : upto ≤ length a.log
  pub told : (d : Text) (r : Clock) → 1 ≤ last_of a d → last_of a d ≤ upto
      → (a.document d).current ≡ Some r → NotOlder (b.document d) r

pub record ToldUpTo (a b : State) (p : Place) : Type 0 where
  pub fits : FitsLog a.log p
  pub upto : ToldTo a b p.generation

-- ---- lists of documents

abbrev pub Rising : List SyncDoc → Type 0
Rising [] = Unit {0}
Rising (doc ∷ docs) = ((e : SyncDoc) → In e docs → doc.at.generation < e.at.generation) × Rising docs

abbrev pub InDocs : Text → Clock → ℕ → List SyncDoc → Type 0
InDocs d r n docs = (doc : SyncDoc) × In doc docs × (doc.id ≡ d) × (doc.member.rev ≡ r) × (doc.at.generation ≡ n)

-- a document that is listed has its place in the log
pub record Stands (s : State) (upto : ℕ) (doc : SyncDoc) : Type 0 where
  pub fits : FitsLog s.log doc.at
  pub low : doc.at.generation ≤ upto

-- a lists its changes from one generation up to another
pub record Listed (a : State) (from upto : ℕ) (docs : List SyncDoc) : Type 0 where
  pub within : upto ≤ length a.log
  pub whole : (d : Text) (r : Clock) → from < last_of a d → last_of a d ≤ upto → (a.document d).current ≡ Some r
      → InDocs d r (last_of a d) docs
  pub places : (doc : SyncDoc) → In doc docs → Stands a upto doc
  pub covered : (doc : SyncDoc) → In doc docs → CoversRev (a.document doc.id) doc.member.rev
  pub rising : Rising docs

-- b, whose uid is v, returned documents up to a place, which a has not taken yet
pub record Returned (a b : State) (v : Uid) (docs : List SyncDoc) (top : Place) : Type 0 where
  pub fits : FitsLog b.log top
  pub whole : (d : Text) (r : Clock) → (position_kept a Known v).generation < last_of b d → last_of b d ≤ top.generation
      → (b.document d).current ≡ Some r → InDocs d r (last_of b d) docs ⊎ CoversRev (a.document d) r
  pub places : (doc : SyncDoc) → In doc docs → Stands b top.generation doc
  pub not_older : (doc : SyncDoc) → In doc docs → NotOlder (b.document doc.id) doc.member.rev
  pub rising : Rising docs

-- b is to go over these of all documents that a sent; a has what is held
pub record AtLines (a b : State) (all docs : List SyncDoc) (held : List Held) : Type 0 where
  pub passed : (doc : SyncDoc) → In doc all → In doc docs ⊎ NotOlder (b.document doc.id) doc.member.rev
  pub from_all : (doc : SyncDoc) → In doc docs → In doc all
  pub rising : Rising docs
  pub early : (h : Held) → In h held → h.generation ≤ length b.log
  pub has : (h : Held) → In h held → (r : Clock) → last_of b h.doc ≤ h.generation
      → (b.document h.doc).current ≡ Some r → CoversRev (a.document h.doc) r

-- the log of a grew by what was taken at least, and where by just that, b has nothing older than what came after base
pub record Recorded (a b : State) (base taken : ℕ) : Type 0 where
  pub grown : base + taken ≤ length a.log
  pub replied : length a.log ≡ base + taken → (d : Text) (r : Clock) → base < last_of a d
      → (a.document d).current ≡ Some r → NotOlder (b.document d) r
