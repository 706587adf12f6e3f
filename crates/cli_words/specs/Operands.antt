-- How operands are read: each gives a value, or its place is that of the first word that is refused.
use Rattle.std.specs.Prelude.{ℕ, List, [], ◌∷◌, map, Option, Some, None, Result, Ok, Err}
use Rattle.u1_base.specs.Ids.{id_in}
use Rattle.u1_base.specs.declared.ids.Form.TheVariants.{Document, Replica, Name}
use Rattle.vector_rev.specs.Clock.{Clock}
use Rattle.vector_rev.specs.ClockText.{clock_in}
use Rattle.sync_http.specs.Addresses.{address_in}
use Rattle.sync_http.specs.declared.address.Address.{Address}
use Rattle.cli_words.specs.Ends.{end_in}
use Rattle.cli_words.specs.Numbers.{number_in}
use Rattle.cli_words.specs.Word.{Word}
use Rattle.cli_words.specs.declared.fault.Refused.{Refused}

-- ---- single words

abbrev pub taken_at : {A : Type 0} → ℕ → Option A → Result A Refused
taken_at place (Some x) = Ok x
taken_at place None = Err (record { place = place })

-- a word is taken where its reader reads it, and else its place is refused
abbrev pub taken : {A : Type 0} → (List ℕ → Option A) → Word → Result A Refused
taken reader word = taken_at word.0 (reader word.1)

abbrev pub document : Word → Result (List ℕ) Refused
document = taken (id_in Document)

abbrev pub uid : Word → Result (List ℕ) Refused
uid = taken (id_in Replica)

-- the name of a database, an index or a view
abbrev pub name : Word → Result (List ℕ) Refused
name = taken (id_in Name)

abbrev pub revision : Word → Result Clock Refused
revision = taken clock_in

abbrev pub address : Word → Result Address Refused
address = taken address_in

-- an end of a range
abbrev pub end : Word → Result (Option (List (List ℕ))) Refused
end = taken end_in

abbrev pub number : ℕ → ℕ → Word → Result ℕ Refused
number least greatest = taken (number_in least greatest)

-- expressions and query values are not read here
abbrev pub texts : List Word → List (List ℕ)
texts words = map (λ w. w.1) words

-- ---- several words: they are read in their order, up to the first that is refused

abbrev pub with_one : {A B : Type 0} → (A → B) → Result A Refused → Result B Refused
with_one f (Ok a) = Ok (f a)
with_one f (Err refused) = Err refused

abbrev pub with_two : {A B C : Type 0} → (A → B → C) → Result A Refused → Result B Refused → Result C Refused
with_two f (Ok a) b = with_one (f a) b
with_two f (Err refused) b = Err refused

abbrev pub with_three : {A B C D : Type 0} → (A → B → C → D) → Result A Refused → Result B Refused
    → Result C Refused → Result D Refused
with_three f (Ok a) b c = with_two (f a) b c
with_three f (Err refused) b c = Err refused

abbrev pub with_four : {A B C D E : Type 0} → (A → B → C → D → E) → Result A Refused → Result B Refused
    → Result C Refused → Result D Refused → Result E Refused
with_four f (Ok a) b c d = with_three (f a) b c d
with_four f (Err refused) b c d = Err refused

-- a word that may be missing
abbrev pub maybe : {A : Type 0} → (Word → Result A Refused) → Option Word → Result (Option A) Refused
maybe reader None = Ok None
maybe reader (Some word) = with_one (λ x. Some x) (reader word)

-- each of the words
abbrev pub each : {A : Type 0} → (Word → Result A Refused) → List Word → Result (List A) Refused
each reader [] = Ok []
each reader (word ∷ words) = with_two (λ x xs. x ∷ xs) (reader word) (each reader words)
