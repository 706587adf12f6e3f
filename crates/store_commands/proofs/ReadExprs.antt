-- Expressions that are read one after the other.
use Rattle.std.proofs.Common.{◌≡◌, ℕ, ◌+◌, ◌<◌, ◌≤◌, List, [], ◌∷◌, ◌++◌, length, length-append, map, take, get_or}
use Rattle.std.proofs.Common.{Option, Some, None, Result, Err, refl, sym, ap, ◌∙◌, arith}
use Rattle.std.specs.Option.{option_map}
use Rattle.std.proofs.lemmas.List.{length-map, length-take, take_all, take_more}
use Rattle.std.proofs.lemmas.Option.{slice_get-get_or}
use Rattle.std.proofs.lemmas.List.Elements.{All-append, All-cons, All-nil}
use Rattle.conflicts.specs.State.{Text}
use Rattle.link.specs.Streams.{Output}
use Rattle.replica_core.specs.Replica.{Found as Left, Known, Stands as LeftStands, Stored, stored_in}
use Rattle.expr_parser.specs.Canonical.{canonical}
use Rattle.expr_parser.specs.Forms.{Form}
use Rattle.expr_parser.specs.Reading.{IsExpr, expr_in}
use Rattle.command_lines.specs.declared.outcome.Outcome.{Outcome}
use Rattle.command_lines.specs.Endings.{Ending, Finished, Answered, TooLong, DiskFailed, InputFailed, OutputFailed}
use Rattle.command_lines.specs.Endings.{LinkFailed, DoorFailed, OutOfMemory, ending_of}
use Rattle.command_lines.proofs.Endings.{IsOf, of_kind}
use Rattle.command_lines.specs.declared.outcome.Outcome.TheVariants.{Memory}
use Rattle.store_commands.specs.Carries.{Carries}
use Rattle.store_commands.specs.Deeds.{Answer, ended, go_on}
use Rattle.store_commands.specs.Expressions.{AreUnread, HaveRead, before_others, canonicals_in}
use Rattle.store_commands.specs.inner.Expressions.{AreRead, EndsBy, EndsFor}
use Rattle.store_commands.proofs.Exits.{declined, starved}

-- one text more
one_more : (o : Option Text) (p q : Option (List Text)) (cs : List Text) (c : Text) → before_others o p ≡ Some cs
    → ((ds : List Text) → p ≡ Some ds → q ≡ Some (ds ++ c ∷ [])) → before_others o q ≡ Some (cs ++ c ∷ [])
one_more None p q cs c is more = absurd (cc)
one_more (Some text) None q cs c is more = absurd (cc)
one_more (Some text) (Some ds) q cs c is more = let e : cs ≡ text ∷ ds = cc in rw (more ds refl, e) refl

behind : (texts : List Text) (cs : List Text) (text : Text) (f : Form) → canonicals_in texts ≡ Some cs
    → expr_in text ≡ Some f
    → canonicals_in (texts ++ text ∷ []) ≡ Some (cs ++ canonical f ∷ [])
behind [] cs text f is reads = let e : cs ≡ [] = cc in rw (reads, e) refl
behind (x ∷ xs) cs text f is reads =
    one_more (option_map canonical (expr_in x)) (canonicals_in xs) (canonicals_in (xs ++ text ∷ [])) cs (canonical f) is
    (λ ds there. behind xs ds text f there reads)

pub map-behind : {X Y : Type 0} (h : X → Y) (xs : List X) (x : X) → map h (xs ++ x ∷ []) ≡ map h xs ++ h x ∷ []
map-behind h [] x = refl
map-behind {Y = Y} h (y ∷ ys) x = ap (λ (zs : List Y). h y ∷ zs) (map-behind h ys x)

-- the first ones were read
pub none_read : (texts : List Text) → AreRead (take 0 texts) []
none_read texts = record { count = refl; exprs = All-nil IsExpr; canonicals = refl }

module _ (texts : List Text) (n : ℕ) (d : Text) (within : n < length texts) (fs : List Form)
    (so_far : AreRead (take n texts) fs) where
  pub next_read : (f : Form) → expr_in (get_or texts n d) ≡ Some f → IsExpr f
      → AreRead (take (n + 1) texts) (fs ++ f ∷ [])
  next_read f reads is =
      let more = take_more texts n d within in
      record {
        count = rw more (length-append fs (f ∷ []) ∙ ap (λ (k : ℕ). k + 1) so_far.count
            ∙ sym (length-append (take n texts) (get_or texts n d ∷ [])));
        exprs = All-append IsExpr fs (f ∷ []) so_far.exprs (All-cons IsExpr f [] is (All-nil IsExpr));
        canonicals = rw (more, map-behind canonical fs f)
            (behind (take n texts) (map canonical fs) (get_or texts n d) f so_far.canonicals reads);
      }

  refused_by : (end : Outcome) (kind : Ending) → EndsBy n (get_or texts n d) end kind → AreUnread texts end kind
  refused_by end Answered ends = record {
    place = n;
    text = get_or texts n d;
    fault = ends.0;
    there = slice_get-get_or texts n d within;
    before = rw so_far.canonicals refl;
    refused = ends.1;
    is = ends.2;
  }
  refused_by end OutOfMemory ends = tt
  refused_by end Finished ends = absurd ends
  refused_by end (TooLong need limit) ends = absurd ends
  refused_by end DiskFailed ends = absurd ends
  refused_by end InputFailed ends = absurd ends
  refused_by end OutputFailed ends = absurd ends
  refused_by end LinkFailed ends = absurd ends
  refused_by end DoorFailed ends = absurd ends

  pub refused_at : (end : Outcome) → EndsFor n (get_or texts n d) end → HaveRead texts (Err end)
  refused_at end ends = refused_by end (ending_of end) ends

  -- its place is told
  pub refused_so : (k : ℕ) (text : Text) → k ≡ n → text ≡ get_or texts n d → (end : Outcome) → EndsFor k text end
      → HaveRead texts (Err end)
  refused_so k text is same end ends = refused_at end (rw (is, same) at ends)

-- as many were read as there are expressions
pub place_is : {X : Type 0} (h : X → Form) (texts : List Text) (n : ℕ) (xs : List X) → n < length texts
    → AreRead (take n texts) (map h xs) → length xs ≡ n
place_is h texts n xs within so_far = omega (arith, so_far.count, length-map xs h, length-take n texts, within)

pub all_read : (texts : List Text) (n : ℕ) (fs : List Form) → length texts ≤ n → AreRead (take n texts) fs
    → AreRead texts fs
all_read texts n fs past so_far = rw (take_all n texts past) at so_far

-- ---- an index whose expressions were not read

module _ {R : Type 0} (known : R → Known) (is_open : R → Type 0) (crash : R → ℕ → Left Stored → Type 0)
    (settled : (r : R) (o : Left Stored) → is_open r → crash r (known r).moment o → o ≡ LeftStands (stored_in (known r)))
    (texts : List Text) (next : List Text → Answer) (r : R) (out : Output) (ready : is_open r) where
  unread : (end : Outcome) (kind : Ending) → ending_of end ≡ kind → IsOf kind end → AreUnread texts end kind
      → Carries known is_open crash (ended end) r r out out (Err end)
  unread end Answered is of first = declined known is_open crash settled (ended end) end r out ready is refl
  unread end OutOfMemory is of first = rw of (starved known is_open crash settled (ended Memory) r out ready)
  unread end Finished is of first = absurd first
  unread end (TooLong need limit) is of first = absurd first
  unread end DiskFailed is of first = absurd first
  unread end InputFailed is of first = absurd first
  unread end OutputFailed is of first = absurd first
  unread end LinkFailed is of first = absurd first
  unread end DoorFailed is of first = absurd first

  pub not_read : (end : Outcome) → HaveRead texts (Err end)
      → (exprs : Result (List Text) Outcome) × HaveRead texts exprs
      × Carries known is_open crash (go_on exprs next) r r out out (Err end)
  not_read end first = (Err end, first, unread end (ending_of end) refl (of_kind end) first)
