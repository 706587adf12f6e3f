-- How the program makes ids: a prefix and the 32 digits of a version 5 identifier of RFC 9562.
use Rattle.std.specs.Prelude.{ℕ, List, ◌∷◌, ◌++◌, codes, take}
use Rattle.std.specs.Int.{w128, to_be_bytes}
use Rattle.std.specs.Fmt.{decimal}
use Rattle.sha1.specs.Sha1.{sha1}
use Rattle.uuid.specs.Parts.{with_version, with_variant}
use Rattle.uuid.specs.Text.{simple_text, lower}
use Rattle.uuid.specs.declared.Variant.TheVariants.{RFC4122}
use Rattle.uuid.specs.declared.Version.TheVariants.{Sha1}
use Rattle.u1_base.specs.declared.made.IdKind.{IdKind}
use Rattle.u1_base.specs.declared.made.IdKind.TheVariants.{Doc, Trans, Replica}

-- what an id begins with
abbrev pub prefix_of : IdKind → List ℕ
prefix_of Doc = codes "D-"
prefix_of Trans = codes "T-"
prefix_of Replica = codes "R-"

-- the word of the kind in the name that is hashed
abbrev pub word_of : IdKind → List ℕ
word_of Doc = codes "doc"
word_of Trans = codes "trans"
word_of Replica = codes "replica"

-- the lower hexadecimal digits of the version 5 identifier of a name, the namespace being the seed, high byte first
unfoldable pub identifier_text : ℕ → List ℕ → List ℕ
identifier_text seed name =
    simple_text lower (with_version (with_variant (take 16 (sha1 (to_be_bytes w128 seed ++ name))) RFC4122) Sha1)

-- the prefix, and the identifier of `WORD:NUMBER`
unfoldable pub new_id_text : ℕ → IdKind → ℕ → List ℕ
new_id_text seed kind number = prefix_of kind ++ identifier_text seed (word_of kind ++ 58 ∷ decimal number)
