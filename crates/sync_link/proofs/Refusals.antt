-- What a served request leaves, and what a refused one.
use Rattle.std.proofs.Common.{◌≡◌, ℕ, Bool, true, false, cond, List, [], ◌∷◌, ◌++◌, refl, sym, ap, ◌∙◌, append_assoc}
use Rattle.u1_base.specs.Ids.{same_id}
use Rattle.link.specs.Streams.{IsFront}
use Rattle.conflicts.specs.State.{State, Step, after_all}
use Rattle.sync_stream.specs.Lines.{GoOn}
use Rattle.sync_stream.specs.Replies.{NotFound}
use Rattle.sync_stream.specs.Serving.{AnyStop, Response, Stop, asked, refused, serve}
use Rattle.sync_stream.proofs.Serving.{served_first}
use Rattle.sync_link.specs.Laws.{RefusalsLeave}
use Rattle.sync_link.specs.Serving.{ServesAsDefined, StopsAsDefined}

-- ---- served requests

-- which stops may come does not matter to the steps
pub lost : (may_stop : Stop → Type 0) (seed : ℕ) (p : State) (sent reply : List ℕ) (q : State)
    → ServesAsDefined may_stop seed p sent reply q → StopsAsDefined seed p sent q
lost may_stop seed p sent reply q s = record {
  read = s.read;
  request = s.serves.request;
  made = s.made;
  front = s.front;
  reads = s.serves.reads;
  breaks = served_first may_stop p seed s.serves.request s.serves.reply s.made s.applied s.serves.serves;
  stepped = s.stepped;
}

pub in_front : (seed : ℕ) (p : State) (front sent : List ℕ) (q : State) → IsFront front sent
    → StopsAsDefined seed p front q → StopsAsDefined seed p sent q
in_front seed p front sent q f s = record {
  read = s.read;
  request = s.request;
  made = s.made;
  front = (
    s.front.0 ++ f.0,
    f.1 ∙ ap (λ b. b ++ f.0) s.front.1 ∙ append_assoc s.read s.front.0 f.0,
  );
  reads = s.reads;
  breaks = s.breaks;
  stepped = s.stepped;
}

-- ---- refused ones

none_made : (made more : List Step) → [] ≡ made ++ more → made ≡ []
none_made [] more none = refl
none_made (x ∷ made) more none = absurd (Prim.cc none)

left_alone : (p q : State) (made steps : List Step) → GoOn made steps → steps ≡ [] → q ≡ after_all p made → q ≡ p
left_alone p q made steps first none stepped =
    stepped ∙ ap (λ m. after_all p m) (none_made made first.0 (sym none ∙ first.1))

not_found : (b : Bool) (x : Response) → b ≡ false → (cond b x (refused NotFound)).steps ≡ []
not_found true x other = absurd (Prim.cc other)
not_found false x other = refl

pub refusals : RefusalsLeave
refusals = record {
  served = λ seed p sent reply q s none. left_alone p q s.made (serve p seed s.serves.request).steps
      (served_first AnyStop p seed s.serves.request s.serves.reply s.made s.applied s.serves.serves) none s.stepped;
  stopped = λ seed p sent q s none. left_alone p q s.made (serve p seed s.request).steps s.breaks none s.stepped;
  early = λ seed p. refl;
  faulty = λ seed p fault. refl;
  elsewhere = λ seed p db source purpose other. not_found (same_id p.name db) (asked p seed source purpose) other;
}
