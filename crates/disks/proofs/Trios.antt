-- The one of three and the other two.
use Rattle.std.proofs.Common.{◌≡◌, ◌≢◌, ◌⊎◌, ⊎_elim, inl, inr, ℕ, List, [], ◌∷◌, get_or, refl, sym, ◌∙◌, ap, subst}
use Rattle.disks.specs.declared.name.DiskName.{DiskName}
use Rattle.disks.specs.declared.name.DiskName.TheVariants.{Root, Left, Right}
use Rattle.disks.specs.declared.trio.Trio.{Trio}
use Rattle.disks.specs.Trio.{pick, others, each}

-- what is asked of each, asked of one
pub pick_each : {A B : Type 0} (f : A → B) (name : DiskName) (trio : Trio A)
    → pick name (each f trio) ≡ f (pick name trio)
pick_each f Root trio = refl
pick_each f Left trio = refl
pick_each f Right trio = refl

-- those before a disk, and those after it
abbrev front : {A : Type 0} → List A × List A → List A
front sides = sides.0

abbrev back : {A : Type 0} → List A × List A → List A
back sides = sides.1

-- the other two tell which disk they lie beside
pub one_name : {A : Type 0} (name to : DiskName) (t s : Trio A) → others to t ≡ others name s → to ≡ name
one_name Root Root t s e = refl
one_name Root Left t s e = absurd (cc (ap front e))
one_name Root Right t s e = absurd (cc (ap front e))
one_name Left Root t s e = absurd (cc (ap front e))
one_name Left Left t s e = refl
one_name Left Right t s e = absurd (cc (ap back e))
one_name Right Root t s e = absurd (cc (ap front e))
one_name Right Left t s e = absurd (cc (ap back e))
one_name Right Right t s e = refl

-- an item of a list
abbrev item : {A : Type 0} → A → ℕ → List A → A
item other k list = get_or list k other

-- the other two, one by one
pub same_others : {A : Type 0} (name : DiskName) (t s : Trio A) → others name t ≡ others name s
    → (other : DiskName) → other ≢ name → pick other t ≡ pick other s
same_others Root t s e Root ne = absurd (ne refl)
same_others Root t s e Left ne = ap (item t.left 0) (ap back e)
same_others Root t s e Right ne = ap (item t.left 1) (ap back e)
same_others Left t s e Root ne = ap (item t.left 0) (ap front e)
same_others Left t s e Left ne = absurd (ne refl)
same_others Left t s e Right ne = ap (item t.left 0) (ap back e)
same_others Right t s e Root ne = ap (item t.left 0) (ap front e)
same_others Right t s e Left ne = ap (item t.left 1) (ap front e)
same_others Right t s e Right ne = absurd (ne refl)

-- a disk is this one or another
pub is_or_not : (one other : DiskName) → (one ≡ other) ⊎ (one ≢ other)
is_or_not Root Root = inl refl
is_or_not Root Left = inr (λ e. absurd (cc e))
is_or_not Root Right = inr (λ e. absurd (cc e))
is_or_not Left Root = inr (λ e. absurd (cc e))
is_or_not Left Left = inl refl
is_or_not Left Right = inr (λ e. absurd (cc e))
is_or_not Right Root = inr (λ e. absurd (cc e))
is_or_not Right Left = inr (λ e. absurd (cc e))
is_or_not Right Right = inl refl

-- three that are the same one by one
pub same_trio : {A : Type 0} (t s : Trio A) → ((name : DiskName) → pick name t ≡ pick name s) → t ≡ s
same_trio {A = A} t s same =
    let first : A → Trio A = λ x. record { root = x; left = t.left; right = t.right } in
    let second : A → Trio A = λ x. record { root = s.root; left = x; right = t.right } in
    let third : A → Trio A = λ x. record { root = s.root; left = s.left; right = x } in
    ap first (same Root) ∙ ap second (same Left) ∙ ap third (same Right)

-- this one and the other two are all three
pub same_all : {A : Type 0} (name : DiskName) (t s : Trio A) → pick name t ≡ pick name s
    → others name t ≡ others name s → t ≡ s
same_all name t s one rest =
    same_trio t s (λ n. ⊎_elim
    (λ is. subst (λ (m : DiskName). pick m t ≡ pick m s) (sym is) one)
    (λ ne. same_others name t s rest n ne)
    (is_or_not n name))
