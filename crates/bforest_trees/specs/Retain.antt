-- Calls of a predicate on a key and a `&mut` to its value, and what stays of a list.
use Rattle.bforest_core.specs.Change.{Changes, Ends, GivesNodes}
use Rattle.bforest_core.specs.Paths.{StandsAt, list_under, sizes_under}
use Rattle.bforest_core.specs.Place.{count}
use Rattle.bforest_core.specs.declared.path.Path.{Path}
use Rattle.bforest_core.specs.Sizes.{shrink}
use Rattle.bforest_core.specs.Table.{Table}
use Rattle.bforest_nodes.specs.Entries.{with_value}
use Rattle.std.specs.Borrow.{MutBor}
use Rattle.std.specs.Fn.{Called, Mut, Takes}
use Rattle.std.specs.List.{FoldsTo}
use Rattle.std.specs.Prelude.{Bool, List, [], false, if◌then◌else◌, length, remove, suc, ◌++◌, ◌<◌, ◌↔◌, ◌≡◌, ◌≢◌, ◌∷◌, ℕ}

module _ {F K X : Type 0} (g : Mut F (K × (MutBor X × Unit {0})) (Bool × (MutBor X × Unit {0}))) where
  -- a call of f at k and a `&mut` to v may return b, write w there, and leave f'
  pub record Answers (f : F) (k : K) (v : X) (b : Bool) (w : X) (f' : F) : Type 0 where
    pub value : MutBor X
    pub shows : value.now ≡ v
    pub left : MutBor X
    pub called : Called g f (k, (value, tt)) (b, (left, tt)) f'
    pub leaves : left.now ≡ w

  -- f may be called at k and a `&mut` to v
  abbrev pub MayAsk : F → K → X → Type 0
  MayAsk f k v = (p : MutBor X) → p.now ≡ v → Takes g f (k, (p, tt))

module _ {F K X : Type 0} (step : F → K → X → Bool → X → F → Type 0) where
  -- some call at the entry may leave f'
  abbrev pub Asks : F → K × X → F → Type 0
  Asks f e f' = (b : Bool) × (w : X) × step f e.0 e.1 b w f'

  -- f may be called on each entry in turn, in the state that the calls before have left
  pub record MayAskEach (may : F → K → X → Type 0) (f : F) (es : List (K × X)) : Type 0 where
    pub at : (before after : List (K × X)) (f' : F) (k : K) (v : X) → es ≡ before ++ (k, v) ∷ after → FoldsTo Asks f before f' → may f' k v

  -- f was called on each entry in turn: one result each, with the value that the call left
  abbrev pub AsksEach : F → List (K × X) → List (Bool × X) → Type 0
  AsksEach f [] answers = answers ≡ []
  AsksEach f (e ∷ es) [] = ⊥
  AsksEach f (e ∷ es) (answer ∷ answers) = (f' : F) × step f e.0 e.1 answer.0 answer.1 f' × AsksEach f' es answers

-- the entries for which it returned true, with the values that the calls left
abbrev pub kept_by : {K X : Type 0} → List (K × X) → List (Bool × X) → List (K × X)
kept_by [] answers = []
kept_by (e ∷ es) [] = []
kept_by (e ∷ es) (answer ∷ answers) = if answer.0 then (e.0, answer.1) ∷ kept_by es answers else kept_by es answers

-- the sizes after one removal for each entry for which it returned false, where the first entry is at `place`
abbrev pub sizes_by : {X : Type 0} → ℕ → ℕ → List (Bool × X) → List (List ℕ) → List (List ℕ)
sizes_by most place [] sizes = sizes
sizes_by most place (answer ∷ answers) sizes =
    if answer.0 then sizes_by most (suc place) answers sizes else sizes_by most place answers (shrink most place sizes)

-- f was called on each entry of a list in nodes of these sizes: the entries for which it returned true are kept, and each other entry is a removal
pub record Retains {F K X : Type 0} (step : F → K → X → Bool → X → F → Type 0) (most : ℕ) (f : F) (es : List (K × X)) (sizes : List (List ℕ)) (kept : List (K × X)) (after : List (List ℕ)) : Type 0 where
  pub answers : List (Bool × X)
  pub asked : AsksEach step f es answers
  pub kept_is : kept ≡ kept_by es answers
  pub sizes_are : after ≡ sizes_by most 0 answers sizes

module _ {F K X : Type 0} (most : ℕ) (step : F → K → X → Bool → X → F → Type 0) where
  -- f was called on the entry at a place under a root. Where it returned true, the entry stays with the value left there, and the path goes
  -- behind it. Where it returned false, the entry is removed, and the path stands on the next entry.
  pub record Stepped (old new : Table K X) (root root' : ℕ) (path' : Path K X most) (f f' : F) (list : List (K × X)) (sizes : List (List ℕ)) (place : ℕ) (k : K) (v : X) : Type 0 where
    pub stays : Bool
    pub left : X
    pub stepped : step f k v stays left f'
    pub changes : Changes most old new root root' (if stays then with_value list place left else remove list place) (if stays then sizes else shrink most place sizes)
    pub gives : GivesNodes sizes (if stays then sizes else shrink most place sizes) old new
    pub at : StandsAt new root' path' (if stays then suc place else place)
    pub same_root : (root' ≡ root) ↔ (length (if stays then sizes else shrink most place sizes) ≡ length sizes)
    pub freed_root : root' ≢ root → 0 < count root new.chain

  -- f was called on the only entry of the tree under a root, and the tree was removed
  pub record SteppedLast (old new : Table K X) (root : ℕ) (f f' : F) (list : List (K × X)) (sizes : List (List ℕ)) (place : ℕ) (k : K) (v : X) : Type 0 where
    pub left : X
    pub stepped : step f k v false left f'
    pub last : length list ≡ 1
    pub ended : Ends most old new root
    pub gives : GivesNodes sizes (shrink most place sizes) old new
    pub none_left : shrink most place sizes ≡ []

  -- f was called on each entry of the tree under a root, and the entries of `list` stay
  pub record Retained (old new : Table K X) (root root' : ℕ) (f : F) : Type 0 where
    pub list : List (K × X)
    pub sizes : List (List ℕ)
    pub retains : Retains step most f (list_under old root) (sizes_under old root) list sizes
    pub changes : Changes most old new root root' list sizes
    pub gives : GivesNodes (sizes_under old root) sizes old new
    pub same_root : (root' ≡ root) ↔ (length sizes ≡ length (sizes_under old root))

  -- f was called on each entry of the tree under a root, and none stays
  pub record RetainedNone (old new : Table K X) (root : ℕ) (f : F) : Type 0 where
    pub retains : Retains step most f (list_under old root) (sizes_under old root) [] []
    pub ended : Ends most old new root
    pub gives : GivesNodes (sizes_under old root) [] old new
