-- The table of the commands: for each its word, how many operands it has and which option, and how they are read.
use Rattle.std.specs.Prelude.{ℕ, ◌^◌, ◌-◌, min, List, codes, drop, find, Option, Some, None, option_map, Result, Ok}
use Rattle.std.specs.Prelude.{Err, slice_get}
use Rattle.std.specs.Str.{bytes_eq}
use Rattle.u1_base.specs.declared.limits.TheConstants.{LEAST_IMAGE_LIMIT, GREATEST_IMAGE_LIMIT, GREATEST_COUNT}
use Rattle.cli_words.specs.declared.limits.TheConstants.{GREATEST_PORT, MOST_CONNECTIONS, MOST_ROUNDS, MOST_BETWEEN}
use Rattle.cli_words.specs.declared.limits.TheConstants.{MOST_WORKLOAD}
use Rattle.cli_words.specs.declared.command.Command.{Command}
use Rattle.cli_words.specs.declared.command.Command.TheVariants as to
use Rattle.cli_words.specs.declared.command.Edit.TheVariants as edit
use Rattle.cli_words.specs.declared.command.Online.TheVariants as online
use Rattle.cli_words.specs.declared.command.Show.TheVariants as show
use Rattle.cli_words.specs.declared.command.View.TheVariants as view
use Rattle.cli_words.specs.declared.fault.Refused.{Refused}
use Rattle.cli_words.specs.declared.given.Given.{Given}
use Rattle.cli_words.specs.declared.synopsis.Allowed.{Allowed}
use Rattle.cli_words.specs.declared.synopsis.Allowed.TheVariants.{Nothing, Deleted, Limit}
use Rattle.cli_words.specs.declared.synopsis.Synopsis.{Synopsis}
use Rattle.cli_words.specs.declared.verb.Verb.{Verb}
use Rattle.cli_words.specs.declared.verb.Verb.TheVariants as verb
use Rattle.cli_words.specs.declared.verb.TheConstants.{VERBS}
use Rattle.cli_words.specs.Given.{is_deleted, limit_word}
use Rattle.cli_words.specs.Word.{Word, word_at}
use Rattle.cli_words.specs.Operands.{document, uid, name, revision, address, end, number, texts, with_one, with_two}
use Rattle.cli_words.specs.Operands.{with_three, with_four, maybe, each}

-- ---- `init`, whose option may stand before its operands

-- of two words that are refused the one that stands first counts
abbrev pub first_refused : {B : Type 0} → Refused → Result B Refused → Refused
first_refused refused (Ok b) = refused
first_refused refused (Err other) = record { place = min refused.place other.place }

abbrev pub with_option : {A B C : Type 0} → (A → B → C) → Result A Refused → Result B Refused
    → Result C Refused
with_option f (Ok a) b = with_one (f a) b
with_option f (Err refused) b = Err (first_refused refused b)

abbrev pub names : List Word → Result (List ℕ × Option (List ℕ)) Refused
names w = with_two (λ n u. (n, u)) (name (word_at w 0)) (maybe uid (slice_get w 1))

abbrev pub limit : Given → Result (Option ℕ) Refused
limit o = maybe (number LEAST_IMAGE_LIMIT GREATEST_IMAGE_LIMIT) (limit_word o)

-- ---- the numbers

abbrev pub port : Word → Result ℕ Refused
port = number 1 GREATEST_PORT

abbrev pub connections : Word → Result ℕ Refused
connections = number 1 MOST_CONNECTIONS

-- ---- the table

pub record Row : Type 0 where
  pub word : List ℕ
  -- its operands and its option, as they are shown to people
  pub shown : List ℕ
  pub synopsis : Synopsis
  -- of operands in the number that the synopsis says, and of its option
  pub reads : List Word → Given → Result Command Refused

-- a command's word, how its operands are shown, their least and greatest number, its option, and how they are read
abbrev pub row : List ℕ → List ℕ → ℕ → Option ℕ → Allowed → (List Word → Given → Result Command Refused) → Row
row word shown least most option reads = record {
  word = word;
  shown = shown;
  synopsis = record { least = least; most = most; option = option };
  reads = reads;
}

abbrev pub row_of : Verb → Row
row_of verb.Init = row (codes "init") (codes "NAME [UID] [--limit N]") 1 (Some 2) Limit (λ w o.
    with_option (λ n l. to.Init n.0 n.1 l) (names w) (limit o))
row_of verb.Create = row (codes "create") (codes "[ID]") 0 (Some 1) Nothing (λ w o.
    with_one (λ id. to.Edit (edit.Create id)) (maybe document (slice_get w 0)))
row_of verb.Get = row (codes "get") (codes "ID [--deleted]") 1 (Some 1) Deleted (λ w o.
    with_one (λ id. to.Show (show.Get id (is_deleted o))) (document (word_at w 0)))
row_of verb.Put = row (codes "put") (codes "ID [REV]") 1 (Some 2) Nothing (λ w o.
    with_two (λ id rev. to.Edit (edit.Put id rev)) (document (word_at w 0)) (maybe revision (slice_get w 1)))
row_of verb.Delete = row (codes "delete") (codes "ID REV") 2 (Some 2) Nothing (λ w o.
    with_two (λ id rev. to.Edit (edit.Delete id rev)) (document (word_at w 0)) (revision (word_at w 1)))
row_of verb.Conflicts = row (codes "conflicts") (codes "ID") 1 (Some 1) Nothing (λ w o.
    with_one (λ id. to.Show (show.Conflicts id)) (document (word_at w 0)))
row_of verb.Resolve = row (codes "resolve") (codes "ID REV...") 2 None Nothing (λ w o.
    with_two (λ id revs. to.Edit (edit.Resolve id revs)) (document (word_at w 0)) (each revision (drop 1 w)))
row_of verb.ResolveDeleted = row (codes "resolve-deleted") (codes "ID REV...") 2 None Nothing (λ w o.
    with_two (λ id revs. to.Edit (edit.ResolveDeleted id revs)) (document (word_at w 0)) (each revision (drop 1 w)))
row_of verb.IndexCreate = row (codes "index-create") (codes "NAME EXPRESSION...") 2 (Some 9) Nothing (λ w o.
    with_one (λ n. to.Edit (edit.IndexCreate n (texts (drop 1 w)))) (name (word_at w 0)))
row_of verb.IndexDelete = row (codes "index-delete") (codes "NAME") 1 (Some 1) Nothing (λ w o.
    with_one (λ n. to.Edit (edit.IndexDelete n)) (name (word_at w 0)))
row_of verb.IndexList = row (codes "index-list") (codes "") 0 (Some 0) Nothing (λ w o.
    Ok (to.Show show.IndexList))
row_of verb.Query = row (codes "query") (codes "NAME VALUE...") 2 None Nothing (λ w o.
    with_one (λ n. to.Show (show.Query n (texts (drop 1 w)))) (name (word_at w 0)))
row_of verb.Range = row (codes "range") (codes "NAME START END") 3 (Some 3) Nothing (λ w o.
    with_three (λ n first last. to.Show (show.Range n first last)) (name (word_at w 0)) (end (word_at w 1)) (end (word_at w 2)))
row_of verb.Keys = row (codes "keys") (codes "NAME") 1 (Some 1) Nothing (λ w o.
    with_one (λ n. to.Show (show.Keys n)) (name (word_at w 0)))
row_of verb.All = row (codes "all") (codes "[--deleted]") 0 (Some 0) Deleted (λ w o.
    Ok (to.Show (show.All (is_deleted o))))
row_of verb.Changes = row (codes "changes") (codes "GENERATION") 1 (Some 1) Nothing (λ w o.
    with_one (λ after. to.Show (show.Changes after)) (number 0 GREATEST_COUNT (word_at w 0)))
row_of verb.Info = row (codes "info") (codes "") 0 (Some 0) Nothing (λ w o.
    Ok (to.Show show.Info))
row_of verb.Compact = row (codes "compact") (codes "") 0 (Some 0) Nothing (λ w o.
    Ok to.Compact)
row_of verb.Sync = row (codes "sync") (codes "ADDRESS") 1 (Some 1) Nothing (λ w o.
    with_one (λ with. to.Online (online.Sync with)) (address (word_at w 0)))
row_of verb.Serve = row (codes "serve") (codes "PORT COUNT") 2 (Some 2) Nothing (λ w o.
    with_two (λ p n. to.Online (online.Serve p n)) (port (word_at w 0)) (connections (word_at w 1)))
row_of verb.ServeDocs = row (codes "serve-docs") (codes "PORT COUNT") 2 (Some 2) Nothing (λ w o.
    with_two (λ p n. to.Online (online.ServeDocs p n)) (port (word_at w 0)) (connections (word_at w 1)))
row_of verb.Node = row (codes "node") (codes "PORT ADDRESS ROUNDS BETWEEN") 4 (Some 4) Nothing (λ w o.
    with_four (λ p with rounds between. to.Online (online.Node p with rounds between)) (port (word_at w 0))
    (address (word_at w 1)) (number 1 MOST_ROUNDS (word_at w 2)) (number 0 MOST_BETWEEN (word_at w 3)))
row_of verb.Work = row (codes "work") (codes "SEED COUNT") 2 (Some 2) Nothing (λ w o.
    with_two to.Work (number 0 (2 ^ 64 - 1) (word_at w 0)) (number 0 MOST_WORKLOAD (word_at w 1)))
row_of verb.ViewCreate = row (codes "view-create") (codes "NAME INDEX VALUE...") 3 None Nothing (λ w o.
    with_two (λ n i. to.View (view.Create n i (texts (drop 2 w)))) (name (word_at w 0)) (name (word_at w 1)))
row_of verb.ViewShow = row (codes "view-show") (codes "NAME") 1 (Some 1) Nothing (λ w o.
    with_one (λ n. to.View (view.Show n)) (name (word_at w 0)))
row_of verb.ViewDelete = row (codes "view-delete") (codes "NAME") 1 (Some 1) Nothing (λ w o.
    with_one (λ n. to.View (view.Delete n)) (name (word_at w 0)))

-- the command that a word names
abbrev pub verb_in : List ℕ → Option Verb
verb_in word = find (λ v. bytes_eq (row_of v).word word) VERBS

-- what is shown of the operands of the command that a word names
abbrev pub operands_shown : List ℕ → Option (List ℕ)
operands_shown word = option_map (λ v. (row_of v).shown) (verb_in word)
