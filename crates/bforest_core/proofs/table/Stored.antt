-- Nodes as stored in their slots: with one more child or entry, and cut.
use Rattle.bforest_core.proofs.Words.{◌≡◌, ℕ, zero, suc, ◌+◌, ◌-◌, ◌≤◌, List, [], ◌∷◌, ◌++◌, map, length, drop, insert, slice_get, Some, refl, sym, ap, ◌∙◌}
use Rattle.bforest_core.proofs.Words.{subst, append_assoc, length-append, arith, Heads, length-map, map-append, take_at, drop_at, length-drop, Content, Inner}
use Rattle.bforest_core.proofs.Words.{Leaf, Free, IsFree, IsInner, IsCut, children_of, entry_count, with_child, with_entry, inner_content, leaf_content}
use Rattle.bforest_core.proofs.Words.{Option, entry_keys, entry_items}

pub some_same : {A : Type 0} → {x y : A} → Some x ≡ Some y → x ≡ y
some_same e = cc

-- two reads of a slot agree
pub read_same : {A : Type 0} → (list : List A) (n : ℕ) {x y : A} → slice_get list n ≡ Some x → slice_get list n ≡ Some y → y ≡ x
read_same list n first second = some_same (cc)

-- what holds of one read of a slot holds of another
pub read_as : {A : Type 0} {x y : A} {read : Option A} → read ≡ Some x → read ≡ Some y → (P : A → Type 0) → P x → P y
read_as first second P said = subst P (some_same (sym first ∙ second)) said

pub slice_get_at : {A : Type 0} → (p : List A) (y : A) (ys : List A) (n : ℕ) → length p ≡ n → slice_get (p ++ y ∷ ys) n ≡ Some y
slice_get_at [] y ys zero e = refl
slice_get_at [] y ys (suc n) e = absurd (omega arith)
slice_get_at (z ∷ p) y ys zero e = absurd (omega arith)
slice_get_at (z ∷ p) y ys (suc n) e = slice_get_at p y ys n (omega arith)

drop-behind : {A : Type 0} (p : List A) (y : A) (ys : List A) (n : ℕ) → suc (length p) ≡ n → drop n (p ++ y ∷ ys) ≡ ys
drop-behind p y ys n e = cc (append_assoc p _ _, drop_at (p ++ y ∷ []) ys n (length-append p _ ∙ omega arith))

-- inserting between two parts of a mapped list
insert_at : {X Y : Type 0} (f : X → Y) (l r : List X) (y : X) → insert (map f (l ++ r)) (length l) (f y) ≡ map f (l ++ y ∷ r)
insert_at f [] r y = refl
insert_at f (z ∷ l) r y = cc (insert_at f l r y)

-- an inner node has one key fewer than entries
pub key_count : {K : Type 0} → (es : Heads K) → length (drop 1 (entry_keys es)) ≡ length es - 1
key_count es = cc (length-drop 1 _, length-map es (λ w. w.0))

pub item_count : {K X : Type 0} → (es : List (K × X)) → length (entry_items es) ≡ length es
item_count es = length-map es (λ w. w.1)

pub keys_count : {K X : Type 0} → (es : List (K × X)) → length (entry_keys es) ≡ length es
keys_count es = length-map es (λ w. w.0)

-- the two parts of a node that was cut
pub record Parts {K V X : Type 0} (content : List (K × X) → Content K V) (xs : List (K × X)) (y : K × X) (ys : List (K × X)) (left right : Content K V) (key : K) : Type 0 where
  pub left_is : left ≡ content xs
  pub right_is : right ≡ content (y ∷ ys)
  pub key_is : key ≡ y.0

-- a node with an entry is not free
pub not_free : {K V : Type 0} → (content : Content K V) → 1 ≤ entry_count content → IsFree content → ⊥
not_free (Inner keys children) some free = free
not_free (Leaf keys vals) some free = free
not_free (Free next) some free = omega arith

-- an inner node is not free, and has as many entries as children
pub inner_used : {K V : Type 0} → (content : Content K V) → IsInner content → (¬ IsFree content) × (entry_count content ≡ length (children_of content))
inner_used (Inner keys children) inner = (λ free. free, refl)
inner_used (Leaf keys vals) inner = elim inner [ ]
inner_used (Free next) inner = elim inner [ ]

-- a content that is no inner node has no children
pub childless : {K V : Type 0} → (content : Content K V) → (IsInner content → ⊥) → 0 ≡ length (children_of content)
childless (Inner keys children) other = absurd (other tt)
childless (Leaf keys vals) other = refl
childless (Free next) other = refl

module _ {K : Type 0} (V : Type 0) where
  -- inserting a child behind others
  pub with_child_is : (l r : Heads K) (e : ℕ) (y : K × ℕ) → length l ≡ e + 1 → with_child {V = V} (inner_content (l ++ r)) e y.0 y.1 ≡ inner_content (l ++ y ∷ r)
  with_child_is [] r e y is = absurd (omega arith)
  with_child_is (z ∷ l) r e y is = let next : e + 1 ≡ suc (length l) = omega arith in let here : e ≡ length l = omega arith in
      rw (next, here, insert_at (λ w. w.0) l r y, insert_at (λ w. w.1) (z ∷ l) r y) refl

  -- the parts of an inner node after its first `q` children
  pub inner_cuts : (x xs y ys q : _) (left right : Content K V) (key : K) → length (x ∷ xs) ≡ q → IsCut (inner_content ((x ∷ xs) ++ y ∷ ys)) q left key right → Parts inner_content (x ∷ xs) y ys left right key
  inner_cuts x xs y ys q left right key e c =
      let kl : length (entry_keys xs) ≡ q - 1 = length-map xs (λ w. w.0) ∙ omega arith in let kl2 = ap suc (length-map xs (λ w. w.0)) ∙ e in
      let il = length-map (x ∷ xs) (λ w. w.1) ∙ e in let k = map-append (λ w. w.0) xs (y ∷ ys) in let i = map-append (λ w. w.1) (x ∷ xs) (y ∷ ys) in record {
        left_is = rw (k, i, take_at (entry_keys xs) (y.0 ∷ entry_keys ys) (q - 1) kl, take_at (entry_items (x ∷ xs)) (y.1 ∷ entry_items ys) q il) at c.left_is;
        right_is = rw (k, i, drop-behind (entry_keys xs) y.0 (entry_keys ys) q kl2, drop_at (entry_items (x ∷ xs)) (y.1 ∷ entry_items ys) q il) at c.right_is;
        key_is = some_same (cc (slice_get_at (entry_keys xs) y.0 (entry_keys ys) (q - 1) kl));
      }

  -- inserting an entry into a leaf
  pub with_entry_is : (l r : List (K × V)) (key : K) (value : V) (e : ℕ) → length l ≡ e → with_entry (leaf_content (l ++ r)) e key value ≡ leaf_content (l ++ (key, value) ∷ r)
  with_entry_is l r key value e is = rw (← is, insert_at (λ w. w.0) l r (key, value), insert_at (λ w. w.1) l r (key, value)) refl

  -- the parts of a leaf after its first `q` entries
  pub leaf_cuts : (xs : List (K × V)) (y ys q left right key : _) → length xs ≡ q → IsCut (leaf_content (xs ++ y ∷ ys)) q left key right → Parts leaf_content xs y ys left right key
  leaf_cuts xs y ys q left right key e c =
      let kl = length-map xs (λ w. w.0) ∙ e in let il = length-map xs (λ w. w.1) ∙ e in let k = map-append (λ w. w.0) xs (y ∷ ys) in
      let i = map-append (λ w. w.1) xs (y ∷ ys) in record {
        left_is = rw (k, i, take_at (entry_keys xs) (y.0 ∷ entry_keys ys) q kl, take_at (entry_items xs) (y.1 ∷ entry_items ys) q il) at c.left_is;
        right_is = rw (k, i, drop_at (entry_keys xs) (y.0 ∷ entry_keys ys) q kl, drop_at (entry_items xs) (y.1 ∷ entry_items ys) q il) at c.right_is;
        key_is = some_same (cc (slice_get_at (entry_keys xs) y.0 (entry_keys ys) q kl));
      }
