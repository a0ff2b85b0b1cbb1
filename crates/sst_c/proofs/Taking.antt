-- A bulk read between two of its reads. Assumes `Logic`.
use Rattle.std.proofs.Common.{◌≡◌, ℕ, suc, ◌+◌, ◌-◌, ◌<◌, ◌≤◌, List, [], ◌∷◌, ◌++◌, length, refl, sym, ap, ◌∙◌, arith, append_assoc, inl, inr, subst}
use Rattle.std.specs.Prelude.{map, take, drop, slice_set, Option, Some, None, is_some, true}
use Rattle.std.specs.List.{flat_map}
use Rattle.std.proofs.Math.Seq.{drop-append_seam, take-append_seam}
use Rattle.std.proofs.lemmas.Grind.{flat_map-append, common_steps}
use Rattle.std.proofs.lemmas.List.{drop_more, set-append_right, length-map, drop-drop, length-drop, length-append, map-append}
use Rattle.sst_entries.specs.Entry.{Entry}
use Rattle.sst_c.specs.Copies.{laid_over}
use Rattle.sst_c.specs.Reported.{entry_facts}
use Rattle.sst_c.specs.Takes.{EndsWith, ReadsMany, Yields, bytes_of_all, bytes_of, facts_of_all}
use Rattle.sst_c.specs.declared.entries.EntryReport.{EntryReport}

-- reads from s on yielded entries that fill the first places and bytes, and led to t
pub record IsTaking {S : Type 0} (read : S → ℕ → Option Entry → S → Type 0) (s : S)
    (places returned : List EntryReport) (room copied : List ℕ) (place at : ℕ) (t : S) : Type 0 where
  pub entries : List Entry
  pub yields : Yields read s entries t
  pub counts : place ≡ length entries
  pub states : returned ≡ laid_over (facts_of_all entries) places
  pub copies : copied ≡ laid_over (bytes_of_all entries) room
  pub filled : at ≡ length (bytes_of_all entries)

-- a list laid over a room after the list before it
pub laid_on : {X : Type 0} (xs ys room : List X) (n : ℕ) → n ≡ length xs
    → take n (laid_over xs room) ++ laid_over ys (drop n (laid_over xs room)) ≡ laid_over (xs ++ ys) room
laid_on xs ys room n same =
    ap (λ m. take m (laid_over xs room) ++ laid_over ys (drop m (laid_over xs room))) same
    ∙ ap (λ l. l ++ laid_over ys (drop (length xs) (laid_over xs room)))
    (take-append_seam xs (drop (length xs) room))
    ∙ ap (λ l. xs ++ laid_over ys l) (drop-append_seam xs (drop (length xs) room))
    ∙ ap (λ l. xs ++ (ys ++ l)) (drop-drop (length ys) (length xs) room)
    ∙ ap (λ m. xs ++ (ys ++ drop m room)) (sym (length-append xs ys))
    ∙ sym (append_assoc xs ys (drop (length (xs ++ ys)) room))

one_result : {X : Type 0} (xs room : List X) (n : ℕ) (x : X) → n ≡ length xs → n < length room
    → slice_set (laid_over xs room) n x ≡ laid_over (xs ++ x ∷ []) room
one_result xs room n x same within =
    set-append_right xs (drop (length xs) room) n n x (sym same) (omega arith)
    ∙ ap (λ m. xs ++ slice_set (drop (length xs) room) m x) (let e : n - n ≡ 0 = omega arith in e)
    ∙ ap (λ m. xs ++ slice_set (drop m room) 0 x) (sym same)
    ∙ ap (λ l. xs ++ slice_set l 0 x) (drop_more room n x within)
    ∙ sym (append_assoc xs (x ∷ []) (drop (n + 1) room))
    ∙ ap (λ m. (xs ++ x ∷ []) ++ drop m room)
    (ap (λ m. m + 1) same ∙ sym (length-append xs (x ∷ [])))

one_more : (es : List Entry) (e : Entry) → bytes_of_all (es ++ e ∷ []) ≡ bytes_of_all es ++ bytes_of e
one_more es e = grind (arith, common_steps)

module _ {S : Type 0} (read : S → ℕ → Option Entry → S → Type 0) where
  yields_one : (s t u : S) (es : List Entry) (e : Entry) → Yields read s es t → read t 0 (Some e) u
      → Yields read s (es ++ e ∷ []) u
  yields_one s t u [] e same step = (u, subst (λ (x : S). read x 0 (Some e) u) (sym same) step, refl)
  yields_one s t u (f ∷ fs) e more step = (more.0, more.1, yields_one more.0 t u fs e more.2 step)

  pub taking_none : (s : S) (places : List EntryReport) (room : List ℕ)
      → IsTaking read s places places room room 0 0 s
  taking_none s places room = record {
    entries = [];
    yields = refl;
    counts = refl;
    states = refl;
    copies = refl;
    filled = refl;
  }

  -- a read that finds an entry succeeds
  pub step_found : (s t : S) (code : ℕ) (found : Option Entry) (e : Entry) → read s code found t
      → (is_some found ≡ true → code ≡ 0) → Some e ≡ found → read s 0 (Some e) t
  step_found s t code found e step fine is =
      subst (λ (n : ℕ). read s n (Some e) t) (fine (ap is_some (sym is)))
      (subst (λ (x : Option Entry). read s code x t) (sym is) step)

  pub taking_more : (s t u : S) (places returned : List EntryReport) (room copied laid : List ℕ)
      (place at end : ℕ) (e : Entry) (x : EntryReport)
      → IsTaking read s places returned room copied place at t → read t 0 (Some e) u
      → place < length places → x ≡ entry_facts (Some e)
      → laid ≡ take at copied ++ laid_over (bytes_of e) (drop at copied)
      → end ≡ at + length (bytes_of e)
      → IsTaking read s places (slice_set returned place x) room laid (place + 1) end u
  taking_more s t u places returned room copied laid place at end e x before step within fact same on =
      let es = before.entries in
      record {
        entries = es ++ e ∷ [];
        yields = yields_one s t u es e before.yields step;
        counts = ap (λ n. n + 1) before.counts ∙ sym (length-append es (e ∷ []));
        states =
            ap (λ y. slice_set returned place y) fact
            ∙ ap (λ l. slice_set l place (entry_facts (Some e))) before.states
            ∙ one_result (facts_of_all es) places place (entry_facts (Some e))
            (before.counts ∙ sym (length-map es (λ x. entry_facts (Some x)))) within
            ∙ ap (λ l. laid_over l places) (sym (map-append (λ x. entry_facts (Some x)) es (e ∷ [])));
        copies =
            same
            ∙ ap (λ l. take at l ++ laid_over (bytes_of e) (drop at l)) before.copies
            ∙ laid_on (bytes_of_all es) (bytes_of e) room at before.filled
            ∙ ap (λ l. laid_over l room) (sym (one_more es e));
        filled =
            on
            ∙ ap (λ n. n + length (bytes_of e)) before.filled
            ∙ sym (length-append (bytes_of_all es) (bytes_of e))
            ∙ ap length (sym (one_more es e));
      }

  pub taking_full : (s t : S) (places returned : List EntryReport) (room copied : List ℕ) (place at : ℕ)
      → IsTaking read s places returned room copied place at t → place ≡ length places
      → ReadsMany read s places returned room copied place 0 None t
  taking_full s t places returned room copied place at before full = record {
    entries = before.entries;
    last = t;
    yields = before.yields;
    ends = inl (sym before.counts ∙ full, refl, refl, refl);
    counts = before.counts;
    states = before.states;
    copies = before.copies;
  }

  pub taking_stopped : (s t u : S) (places returned : List EntryReport) (room copied : List ℕ) (place at code : ℕ)
      (found : Option Entry) → IsTaking read s places returned room copied place at t → read t code found u
      → place < length places
      → ((e : Entry) → found ≡ Some e → length room < at + length (bytes_of e))
      → ReadsMany read s places returned room copied place code found u
  taking_stopped s t u places returned room copied place at code found before step within full = record {
    entries = before.entries;
    last = t;
    yields = before.yields;
    ends = inr (omega arith, step, λ e is. subst (λ n. length room < n + length (bytes_of e)) before.filled (full e is));
    counts = before.counts;
    states = before.states;
    copies = before.copies;
  }
