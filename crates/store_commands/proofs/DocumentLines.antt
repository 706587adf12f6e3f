-- The line of a document, by what was got of it.
use Rattle.std.proofs.Common.{◌≡◌, ℕ, Bool, [], List, Option, Some, None, Result, subst}
use Rattle.std.specs.Option.{option_map}
use Rattle.conflicts.specs.Document.{is_conflicted}
use Rattle.conflicts.specs.State.{State, Text}
use Rattle.conflicts.specs.declared.member.Member.{Member}
use Rattle.link.specs.Streams.{Output}
use Rattle.replica_core.specs.Commands.Documents.{document_line, line_or_none}
use Rattle.replica_core.specs.Commands.Effects.{Document, Line, NoDocument}
use Rattle.replica_reads.specs.Documents.{got}
use Rattle.command_lines.specs.Lines.{line_text}
use Rattle.command_lines.specs.Puts.{Puts}
use Rattle.command_lines.specs.declared.put.PrintFault.{PrintFault}
use Rattle.store_commands.specs.inner.Shown.{line_if}

-- the line of a member that was got
abbrev pub line_got : State → Text → Option Member → Option Line
line_got s id o = option_map (λ m. Document id m (is_conflicted (s.document id))) o

module _ (s : State) (deleted : Bool) (id : Text) (a b : Output) (result : Result (Unit {0}) PrintFault) where
  -- a text that is made of the line is that of the line that was got
  over_got : (text : Option Line → List ℕ) (o : Option Member) → o ≡ got deleted (s.document id)
      → Puts (text (line_got s id o)) a b result
      → Puts (text (document_line s deleted id)) a b result
  over_got text o is puts = subst (λ (x : Option Member). Puts (text (line_got s id x)) a b result) is puts

  with_mark : (m : Member) (conflicted : Bool) → conflicted ≡ is_conflicted (s.document id)
      → Puts (line_text (Document id m conflicted)) a b result
      → Puts (line_text (Document id m (is_conflicted (s.document id)))) a b result
  with_mark m conflicted same puts = subst (λ (x : Bool). Puts (line_text (Document id m x)) a b result) same puts

  pub puts_found : (m : Member) (conflicted : Bool) → Some m ≡ got deleted (s.document id)
      → conflicted ≡ is_conflicted (s.document id)
      → Puts (line_text (Document id m conflicted)) a b result
      → Puts (line_text (line_or_none (document_line s deleted id))) a b result
  puts_found m conflicted is same puts = over_got (λ line. line_text (line_or_none line)) (Some m) is
      (with_mark m conflicted same puts)

  pub puts_missing : None ≡ got deleted (s.document id) → Puts (line_text NoDocument) a b result
      → Puts (line_text (line_or_none (document_line s deleted id))) a b result
  puts_missing is puts = over_got (λ line. line_text (line_or_none line)) None is puts

  pub puts_listed : (m : Member) (conflicted : Bool) → Some m ≡ got deleted (s.document id)
      → conflicted ≡ is_conflicted (s.document id)
      → Puts (line_text (Document id m conflicted)) a b result → Puts (line_if (document_line s deleted id)) a b result
  puts_listed m conflicted is same puts = over_got line_if (Some m) is (with_mark m conflicted same puts)

  pub puts_unlisted : None ≡ got deleted (s.document id) → Puts [] a b result
      → Puts (line_if (document_line s deleted id)) a b result
  puts_unlisted is puts = over_got line_if None is puts
