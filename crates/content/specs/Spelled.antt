-- Which texts are those of contents, and of which.
use Rattle.std.specs.Prelude.{◌≡◌, ℕ, List, unwrap_or}
use Rattle.content.specs.Tree.{Tree, null}
use Rattle.content.specs.Canonical.{canonical}
use Rattle.content.specs.Contents.{IsContent}
use Rattle.content.specs.Reading.{content_in}

-- the text is that of a content
abbrev pub IsSpelled : List ℕ → Type 0
IsSpelled text = (t : Tree) × IsContent t × (text ≡ canonical t)

-- the content whose text it is
abbrev pub spelled_tree : List ℕ → Tree
spelled_tree text = unwrap_or (content_in text) null
