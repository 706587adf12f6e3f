-- A text of a content is that of the tree that it reads as.
use Rattle.std.proofs.Common.{◌≡◌, ℕ, List, Some, IsUtf8, refl, sym, ap, ◌∙◌, subst}
use Rattle.std.specs.Prelude.{◌↔◌, unwrap_or}
use Rattle.content.specs.Tree.{Tree, null}
use Rattle.content.specs.Canonical.{canonical}
use Rattle.content.specs.Contents.{IsContent}
use Rattle.content.specs.Faults.{Reads}
use Rattle.content.specs.Reading.{content_in}
use Rattle.content.specs.Spelled.{IsSpelled, spelled_tree}
use Rattle.content.proofs.CanonicalTexts.{IsUtf8-canonical, canonical-injective}
use Rattle.content.proofs.Reading.{content_in-canonical, content_in-Reads, IsContent-content_in}

pub spelled_tree-is : (text : List ℕ) (t : Tree) → IsContent t → text ≡ canonical t → spelled_tree text ≡ t
spelled_tree-is text t is e = ap (λ o. unwrap_or o null) (ap content_in e ∙ content_in-canonical t is)

pub spelled_tree-Reads : (text : List ℕ) (t : Tree) → Reads text t → t ≡ spelled_tree text
spelled_tree-Reads text t reads = sym (ap (λ o. unwrap_or o null) ((content_in-Reads text t).1 reads))

pub IsContent-Reads : (text : List ℕ) (t : Tree) → Reads text t → IsContent t
IsContent-Reads text t reads = IsContent-content_in text t ((content_in-Reads text t).1 reads)

pub canonical-spelled_tree : (text : List ℕ) → IsSpelled text → canonical (spelled_tree text) ≡ text
canonical-spelled_tree text s = ap canonical (spelled_tree-is text s.0 s.1 s.2) ∙ sym s.2

pub IsContent-spelled_tree : (text : List ℕ) → IsSpelled text → IsContent (spelled_tree text)
IsContent-spelled_tree text s = subst IsContent (sym (spelled_tree-is text s.0 s.1 s.2)) s.1

pub content_in-spelled : (text : List ℕ) → IsSpelled text → content_in text ≡ Some (spelled_tree text)
content_in-spelled text s =
    ap content_in (sym (canonical-spelled_tree text s))
    ∙ content_in-canonical (spelled_tree text) (IsContent-spelled_tree text s)

-- what is read of it has no fault
pub Reads-spelled : (text : List ℕ) → IsSpelled text → Reads text (spelled_tree text)
Reads-spelled text s = (content_in-Reads text (spelled_tree text)).0 (content_in-spelled text s)

pub IsUtf8-spelled : (text : List ℕ) → IsSpelled text → IsUtf8 text
IsUtf8-spelled text s = subst IsUtf8 (sym s.2) (IsUtf8-canonical s.0 s.1.formed)

-- the text of a content is spelled
pub IsSpelled-canonical : (t : Tree) → IsContent t → IsSpelled (canonical t)
IsSpelled-canonical t is = (t, is, refl)

-- two contents are equal exactly where their texts are
pub same_texts : (t u : Tree) → IsContent t → IsContent u → (canonical t ≡ canonical u) ↔ (t ≡ u)
same_texts t u is other = (canonical-injective t u is other, ap canonical)
