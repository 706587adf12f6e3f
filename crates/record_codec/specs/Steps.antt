-- Which steps have a body: those that a program can hold.
use Rattle.std.specs.Prelude.{◌<◌, ◌^◌, length, IfSome}
use Rattle.u1_base.specs.Ids.{IsId}
use Rattle.u1_base.specs.declared.ids.Form.TheVariants.{Document, Replica, Transaction, Name}
use Rattle.content.specs.Contents.{IsContent}
use Rattle.expr_parser.specs.Reading.{AreExprs}
use Rattle.conflicts.specs.declared.accept.Accept.{Accept}
use Rattle.conflicts.specs.declared.moves.Move.{Move}
use Rattle.conflicts.specs.State.{Step, Accepted, Gone, Moved, IndexCreated, IndexDeleted}
use Rattle.record_fields.specs.Named.{IsPlace}

abbrev pub IsMove : Move → Type 0
IsMove m = IsId Replica m.uid × IsPlace m.at

-- a clock is one by its type; the number of the parents fits four bytes
abbrev pub IsAccept : Accept → Type 0
IsAccept a = IfSome a.content IsContent × (length a.parents < 2 ^ 32)

abbrev pub IsStep : Step → Type 0
IsStep (Accepted doc a trans moved) = IsId Document doc × IsAccept a × IsId Transaction trans × IfSome moved IsMove
IsStep (Gone doc trans moved) = IsId Document doc × IsId Transaction trans × IfSome moved IsMove
IsStep (Moved m) = IsMove m
IsStep (IndexCreated name exprs) = IsId Name name × AreExprs exprs
IsStep (IndexDeleted name) = IsId Name name
