-- The bytes of a writer after several writes.
use Rattle.std.proofs.Common.{◌≡◌, List, [], ℕ, ◌++◌, take, drop, Option, Some, None, sym, ap, ◌∙◌, append_assoc}
use Rattle.std.proofs.lemmas.List.{take-append-drop}
use Rattle.std.specs.Io.KnownBytes.{Appends, Keeps}
use Rattle.bforest_run.specs.Output.{Grows}
use Rattle.std.proofs.lemmas.List.{append-nil}

-- appending one text and then another appends both
pub appends_more : (old mid new : Option (List ℕ)) (a b : List ℕ) → Appends old mid a → Appends mid new b → Appends old new (a ++ b)
appends_more None mid new a b h k = tt
appends_more (Some xs) (Some ys) (Some zs) a b h k = k ∙ ap (λ l. l ++ b) h ∙ append_assoc xs a b
appends_more (Some xs) (Some ys) None a b h k = absurd k
appends_more (Some xs) None new a b h k = absurd h

-- appending a text and then nothing appends the text
pub appends_kept : (old mid new : Option (List ℕ)) (a : List ℕ) → Appends old mid a → Keeps mid new → Appends old new a
appends_kept None mid new a h k = tt
appends_kept (Some xs) (Some ys) (Some zs) a h k = k ∙ h
appends_kept (Some xs) (Some ys) None a h k = absurd k
appends_kept (Some xs) None new a h k = absurd h

-- a line of which n more bytes were taken
pub taken_more : (line taken rest : List ℕ) (n : ℕ) (left : List ℕ) → line ≡ taken ++ rest → left ≡ drop n rest → line ≡ (taken ++ take n rest) ++ left
taken_more line taken rest n left h e = h ∙ ap (λ r. taken ++ r) (sym (take-append-drop n rest)) ∙ sym (append_assoc taken (take n rest) (drop n rest)) ∙ ap (λ r. (taken ++ take n rest) ++ r) (sym e)

-- writing nothing appends the empty text
pub Appends-none : (o : Option (List ℕ)) → Appends o o []
Appends-none None = tt
Appends-none (Some xs) = sym (append-nil xs)

pub Grows-same : (o : Option (List ℕ)) → Grows o o
Grows-same o = record { text = []; appended = Appends-none o }

-- one growth after another is a growth
pub Grows-more : (old mid new : Option (List ℕ)) → Grows old mid → Grows mid new → Grows old new
Grows-more old mid new a b = record { text = a.text ++ b.text; appended = appends_more old mid new a.text b.text a.appended b.appended }
