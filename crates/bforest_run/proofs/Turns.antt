-- Lines that are answered one after another.
use Rattle.bforest_run.proofs.Parts.{few_lines}
use Rattle.bforest_run.proofs.Written.{Appends-none, Grows-same, appends_more}
use Rattle.bforest_run.specs.Lines.{lines_of}
use Rattle.bforest_run.specs.Session.{AllAnswered, Answered, Breaks, IsBad, IsFor, Outcome, Reached, bad_text}
use Rattle.bforest_run.specs.Statuses.{status_of}
use Rattle.bforest_run.specs.Output.{AppendsPart, ReadsThenWrites}
use Rattle.bforest_run.specs.Words.{Word, words_of}
use Rattle.bforest_run.specs.declared.stop.Stop.TheVariants.{BadLine, InputOutput, Memory}
use Rattle.bforest_run.specs.declared.stop.Stop.{Stop}
use Rattle.std.proofs.Common.{Err, List, Option, [], ap, append_assoc, arith, inl, inr, length, length-append, min, refl, subst, sym, take, ◌+◌, ◌++◌, ◌-◌, ◌<◌, ◌^◌, ◌∙◌, ◌∷◌, ◌≡◌, ◌≢◌, ℕ}
use Rattle.std.proofs.Math.Seq.{take-append_seam}
use Rattle.std.proofs.lemmas.List.{append-nil}
use Rattle.std.specs.Io.KnownBytes.{Appends}
use Rattle.std.specs.Prelude.{codes}

-- a saturated sum that fits is the sum
pub saturated : (r n : ℕ) → r ≡ min (n + 1) (2 ^ 64 - 1) → n + 1 < 18446744073709551616 → r ≡ n + 1
saturated r n is fits = omega (arith, is, fits)

module _ {S : Type 0} (tells : S → List Word → List ℕ → S → Type 0) (is_bad : List Word → Type 0) where
  -- the lines of `before` are answered, and those of `rest` are left
  pub record Turned (start : S) (bytes : List ℕ) (old : Option (List ℕ)) (number : ℕ) (rest : List (List ℕ)) (now : S) (new : Option (List ℕ)) : Type 0 where
    pub before : List (List ℕ)
    pub text : List ℕ
    pub lines : lines_of bytes ≡ before ++ rest
    pub count : length before ≡ number
    pub told : AllAnswered tells is_bad start before text now
    pub appended : Appends old new text

  pub turned-first : (start : S) (bytes : List ℕ) (o : Option (List ℕ)) (rest : List (List ℕ)) → rest ≡ lines_of bytes → Turned start bytes o 0 rest start o
  turned-first start bytes o rest is = record { before = []; text = []; lines = sym is; count = refl; told = (refl, refl); appended = Appends-none o }

  -- one more line that is answered
  answered-push : (start mid now : S) (lines : List (List ℕ)) (line text more : List ℕ) → AllAnswered tells is_bad start lines text mid → Answered tells is_bad mid line more now → AllAnswered tells is_bad start (lines ++ line ∷ []) (text ++ more) now
  answered-push start mid now [] line text more all one =
      (more, [], now, subst (λ s. Answered tells is_bad s line more now) all.1 one, (refl, refl), ap (λ t. t ++ more) all.0 ∙ sym (append-nil more))
  answered-push start mid now (l ∷ ls) line text more all one =
      (all.0, all.1 ++ more, all.2, all.3, answered-push all.2 mid now ls line all.1 more all.4 one, ap (λ t. t ++ more) all.5 ∙ append_assoc all.0 all.1 more)

  module _ (start : S) (bytes : List ℕ) (old : Option (List ℕ)) (number : ℕ) (line : List ℕ) (rest : List (List ℕ)) (now : S) (new : Option (List ℕ)) (t : Turned start bytes old number (line ∷ rest) now new) where
    pub turned-next : (number' : ℕ) → number' ≡ number + 1 → (after : S) (next : Option (List ℕ)) (more : List ℕ) → Answered tells is_bad now line more after → Appends new next more → Turned start bytes old number' rest after next
    turned-next number' is after next more one written = record {
      before = t.before ++ line ∷ [];
      text = t.text ++ more;
      lines = t.lines ∙ sym (append_assoc t.before (line ∷ []) rest);
      count = length-append t.before (line ∷ []) ∙ ap (λ n. n + 1) t.count ∙ sym is;
      told = answered-push start now after t.before line t.text more t.told one;
      appended = appends_more old new next t.text more t.appended written;
    }

    abbrev at_line : Reached tells is_bad start bytes
    at_line = record { before = t.before; line = line; after = rest; lines = t.lines; text = t.text; end = now; told = t.told }

    -- the outcome of a run that stopped at a line
    pub turned-stopped : (number' : ℕ) → number' ≡ number + 1 → (next : Option (List ℕ)) (why : Stop) → (why ≡ BadLine → IsBad tells is_bad line × Appends new next (bad_text number')) → (why ≡ Memory → Appends new next []) → (why ≡ InputOutput → Breaks tells is_bad now number' line new next) → Outcome tells is_bad start bytes old next (status_of (Err why))
    turned-stopped number' is next BadLine bad memory failed = record {
      all = λ e. absurd (cc);
      bad = λ _. let b = bad refl in record {
        reached = at_line;
        bad = b.0;
        appended = subst (λ n. Appends old next (t.text ++ bad_text n)) (is ∙ ap (λ n. n + 1) (sym t.count)) (appends_more old new next t.text (bad_text number') t.appended b.1);
      };
      memory = λ e. absurd (cc);
      failed = λ e. absurd (cc);
    }
    turned-stopped number' is next Memory bad memory failed = record {
      all = λ e. absurd (cc);
      bad = λ e. absurd (cc);
      memory = λ _. record {
        count = length t.before;
        text = t.text;
        end = now;
        told = subst (λ ls. AllAnswered tells is_bad start ls t.text now) (sym (ap (take (length t.before)) t.lines ∙ take-append_seam t.before (line ∷ rest))) t.told;
        appended = subst (λ x. Appends old next x) (append-nil t.text) (appends_more old new next t.text [] t.appended (memory refl));
      };
      failed = λ e. absurd (cc);
    }
    turned-stopped number' is next InputOutput bad memory failed = record {
      all = λ e. absurd (cc);
      bad = λ e. absurd (cc);
      memory = λ e. absurd (cc);
      failed = λ _. let b = failed refl in inr (record {
        reached = at_line;
        written = b.written;
        missing = b.missing;
        some = b.some;
        next = subst (λ n. IsFor tells is_bad now n line (b.written ++ b.missing)) (is ∙ ap (λ n. n + 1) (sym t.count)) b.next;
        appended = appends_more old new next t.text b.written t.appended b.appended;
      });
    }

  -- the text of an answer was written in part
  pub breaks-told : (now after : S) (number : ℕ) (line : List ℕ) (old new : Option (List ℕ)) (said text : List ℕ) → tells now (words_of line) said after → text ≡ said ++ codes "\n" → AppendsPart old new text → Breaks tells is_bad now number line old new
  breaks-told now after number line old new said text told is p = record {
    written = p.written;
    missing = p.missing;
    some = p.some;
    next = inl (after, inr (said, sym p.whole ∙ is, told));
    appended = p.appended;
  }

  -- the number of a bad line was written in part
  pub breaks-bad : (now : S) (number : ℕ) (line : List ℕ) (old new : Option (List ℕ)) (text : List ℕ) → IsBad tells is_bad line → text ≡ bad_text number → AppendsPart old new text → Breaks tells is_bad now number line old new
  breaks-bad now number line old new text bad is p = record {
    written = p.written;
    missing = p.missing;
    some = p.some;
    next = inr (bad, sym p.whole ∙ is);
    appended = p.appended;
  }

  -- the outcome of a run with no line left
  pub turned-last : (start : S) (bytes : List ℕ) (old : Option (List ℕ)) (number : ℕ) (now : S) (new : Option (List ℕ)) → Turned start bytes old number [] now new → Outcome tells is_bad start bytes old new 0
  turned-last start bytes old number now new t = record {
    all = λ _. record {
      text = t.text;
      end = now;
      told = subst (λ ls. AllAnswered tells is_bad start ls t.text now) (sym (t.lines ∙ append-nil t.before)) t.told;
      appended = t.appended;
    };
    bad = λ e. absurd (cc);
    memory = λ e. absurd (cc);
    failed = λ e. absurd (cc);
  }

  -- the number of the next line fits
  pub numbered : (start : S) (bytes : List ℕ) (old : Option (List ℕ)) (number : ℕ) (line : List ℕ) (rest : List (List ℕ)) (now : S) (new : Option (List ℕ)) → Turned start bytes old number (line ∷ rest) now new → length bytes < 9223372036854775808 → number + 1 < 18446744073709551616
  numbered start bytes old number line rest now new t small =
      let all : length (lines_of bytes) ≡ length t.before + length (line ∷ rest) = ap length t.lines ∙ length-append t.before (line ∷ rest) in
      omega (arith, all, few_lines bytes, t.count, small)

-- a run that stops before its first line, and at no bad one, has written nothing
pub stops-unread : (left o : Option (List ℕ)) (why : Stop) → why ≢ BadLine → ReadsThenWrites left o o (status_of (Err why))
stops-unread left o BadLine other = absurd (other refl)
stops-unread left o Memory other = record { whole = λ few. absurd (omega (arith, few)); read_first = λ _. refl; grows = Grows-same o }
stops-unread left o InputOutput other = record { whole = λ few. absurd (omega (arith, few)); read_first = λ _. refl; grows = Grows-same o }
