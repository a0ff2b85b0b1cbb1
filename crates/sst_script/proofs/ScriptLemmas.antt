-- The lines of a script, one after another.
use Rattle.std.proofs.Common.{◌≡◌, refl, sym, ◌∙◌, ap, subst, ℕ, ◌+◌, ◌-◌, ◌<◌, Bool, true, false}
use Rattle.std.proofs.Common.{List, [], ◌∷◌, ◌++◌, length, take, cond, inl, inr, ◌⊎◌, arith}
use Rattle.std.proofs.Common.{append_assoc, append-nil, length-append, lt-ltb}
use Rattle.std.specs.Prelude.{IfErr, Option, Some, None, Result, Ok, Err, ◌==◌, ◌&&◌, nat_lt}
use Rattle.std.specs.Prelude.{slice_index}
use Rattle.std.specs.List.{onto_first}
use Rattle.std.specs.Io.BufRead.{take_through, drop_through, first_piece, strip_last}
use Rattle.std.specs.Io.KnownBytes.{Appends, Keeps}
use Rattle.std.proofs.KnownBytes.{Appends-nil, Appends-trans}
use Rattle.sst_script.specs.declared.stop.Stop.{Stop}
use Rattle.sst_script.specs.declared.stop.Stop.TheVariants.{Line, Input, Output}
use Rattle.sst_script.specs.declared.command.Command.{Command}
use Rattle.sst_script.specs.declared.print.Answer.{Answer}
use Rattle.sst_script.specs.declared.stop.Failure.{Failure}
use Rattle.sst_script.specs.declared.stop.Failure.TheVariants.{BadLine, Refused}
use Rattle.sst_script.specs.Answer.{answer_lines, refusal_line}
use Rattle.sst_entries.specs.Error.{number_of}
use Rattle.sst_script.specs.Command.{words_of, AskFor}
use Rattle.sst_script.specs.Shown.{AppendsFront, ShowsText}
use Rattle.sst_script.specs.Stop.{stop_line}
use Rattle.sst_script.proofs.ShownLemmas.{front_all, kept_behind}
use Rattle.sst_script.specs.Script.{Store, store, Executes}
use Rattle.sst_script.specs.Lines.{lines_of, LosesLine, HasLines}
use Rattle.sst_script.specs.Answering.{outcome_text, PrintEnds, AnswersLine, AnswersAll, Prints}
use Rattle.sst_script.specs.Answering.{LineEnds, ScriptEnds}

-- one more line
pub answered_more : (A : Type 0) (front : List (List ℕ)) (line : List ℕ) (old between new : Store)
    (text more : List ℕ)
    → AnswersAll A front old text between → AnswersLine A line between more new
    → AnswersAll A (front ++ line ∷ []) old (text ++ more) new
answered_more A [] line old between new text more all last = (
  new,
  more,
  [],
  subst (λ (b : Store). AnswersLine A line b more new) all.1 last,
  (refl, refl),
  ap (λ (t : List ℕ). t ++ more) all.0 ∙ sym (append-nil more),
)
answered_more A (first ∷ rest) line old between new text more all last = (
  all.0,
  all.1,
  all.2 ++ more,
  all.3,
  answered_more A rest line all.0 between new all.2 more
      all.4 last,
  ap (λ (t : List ℕ). t ++ more) all.5 ∙ append_assoc all.1 all.2 more,
)

-- a line that has a byte before the others
last_cons : (b x : ℕ) (xs : List ℕ)
    → slice_index (b ∷ x ∷ xs) (length (b ∷ x ∷ xs) - 1)
    ≡ slice_index (x ∷ xs) (length (x ∷ xs) - 1)
last_cons b x xs =
    let p : length (b ∷ x ∷ xs) - 1 ≡ length (x ∷ xs) = omega arith in
    let q : length (x ∷ xs) - 1 ≡ length xs = omega arith in
    ap (slice_index (b ∷ x ∷ xs)) p ∙ sym (ap (slice_index (x ∷ xs)) q)

front_cons : (b x : ℕ) (xs : List ℕ)
    → take (length (b ∷ x ∷ xs) - 1) (b ∷ x ∷ xs) ≡ b ∷ take (length (x ∷ xs) - 1) (x ∷ xs)
front_cons b x xs =
    let p : length (b ∷ x ∷ xs) - 1 ≡ length (x ∷ xs) = omega arith in
    let q : length (x ∷ xs) - 1 ≡ length xs = omega arith in
    ap (λ (n : ℕ). take n (b ∷ x ∷ xs)) p ∙ sym (ap (λ (n : ℕ). b ∷ take n (x ∷ xs)) q)

strip_by : (b x : ℕ) (xs : List ℕ) (e : Bool)
    → cond e (take (length (b ∷ x ∷ xs) - 1) (b ∷ x ∷ xs)) (b ∷ x ∷ xs)
    ≡ b ∷ cond e (take (length (x ∷ xs) - 1) (x ∷ xs)) (x ∷ xs)
strip_by b x xs true = front_cons b x xs
strip_by b x xs false = refl

strip_some : (b : ℕ) (bs : List ℕ)
    → strip_last 10 (b ∷ bs)
    ≡ cond (slice_index (b ∷ bs) (length (b ∷ bs) - 1) == 10)
    (take (length (b ∷ bs) - 1) (b ∷ bs)) (b ∷ bs)
strip_some b bs =
    let some : nat_lt 0 (length (b ∷ bs)) ≡ true = lt-ltb 0 (length (b ∷ bs)) (omega arith) in
    ap (λ (t : Bool). cond (t && (slice_index (b ∷ bs) (length (b ∷ bs) - 1) == 10))
    (take (length (b ∷ bs) - 1) (b ∷ bs)) (b ∷ bs)) some

strip_cons : (b : ℕ) (bs : List ℕ) → 0 < length bs → strip_last 10 (b ∷ bs) ≡ b ∷ strip_last 10 bs
strip_cons b [] h = absurd (omega arith)
strip_cons b (x ∷ xs) h =
    strip_some b (x ∷ xs)
    ∙ ap (λ (n : ℕ). cond (n == 10) (take (length (b ∷ x ∷ xs) - 1) (b ∷ x ∷ xs)) (b ∷ x ∷ xs))
    (last_cons b x xs)
    ∙ strip_by b x xs (slice_index (x ∷ xs) (length (x ∷ xs) - 1) == 10)
    ∙ ap (λ (l : List ℕ). b ∷ l) (sym (strip_some x xs))

some_by : (b : ℕ) (bs : List ℕ) (e : Bool) → 0 < length (cond e (b ∷ []) (b ∷ bs))
some_by b bs true = omega arith
some_by b bs false = omega arith

-- the first line, and those after it
lines_by : (b : ℕ) (bs : List ℕ) (e : Bool) → (b == 10) ≡ e
    → lines_of (b ∷ bs) ≡ first_piece 10 (b ∷ bs) ∷ lines_of (drop_through 10 (b ∷ bs))
lines_by b bs true h =
    let cut : strip_last 10 (b ∷ []) ≡ [] = ap (λ (t : Bool). cond t [] (b ∷ [])) h in
    rw h (ap (λ (l : List ℕ). l ∷ lines_of bs) (sym cut))
lines_by b [] false h =
    let kept : strip_last 10 (b ∷ []) ≡ b ∷ [] = ap (λ (t : Bool). cond t [] (b ∷ [])) h in
    rw h (ap (λ (l : List ℕ). l ∷ []) (sym kept))
lines_by b (c ∷ cs) false h =
    let again : lines_of (c ∷ cs) ≡ first_piece 10 (c ∷ cs) ∷ lines_of (drop_through 10 (c ∷ cs)) =
    lines_by c cs _ refl in
    let first : strip_last 10 (b ∷ take_through 10 (c ∷ cs)) ≡ b ∷ first_piece 10 (c ∷ cs) =
    strip_cons b (take_through 10 (c ∷ cs)) (some_by c (take_through 10 cs) _) in
    rw h (ap (onto_first b) again ∙ ap (λ (l : List ℕ). l ∷ lines_of (drop_through 10 (c ∷ cs)))
    (sym first))

lines_first : (bs : List ℕ) → 0 < length bs
    → lines_of bs ≡ first_piece 10 bs ∷ lines_of (drop_through 10 bs)
lines_first [] h = absurd (omega arith)
lines_first (b ∷ bs) h = lines_by b bs _ refl

-- the lines of known bytes are some lines, and then those that a reader has left
abbrev pub Leaves : Option (List ℕ) → List (List ℕ) → Option (List ℕ) → Type 0
Leaves None front left = Unit {0}
Leaves (Some bytes) front None = ⊥
Leaves (Some bytes) front (Some rest) = lines_of bytes ≡ front ++ lines_of rest

-- the lines that a reader has left, if they are known
abbrev pub known_lines : Option (List ℕ) → List (List ℕ)
known_lines None = []
known_lines (Some rest) = lines_of rest

leaves_rest : (input : Option (List ℕ)) (front : List (List ℕ)) (left : Option (List ℕ))
    → Leaves input front left → HasLines input front (known_lines left)
leaves_rest None front left h = tt
leaves_rest (Some bytes) front None h = absurd h
leaves_rest (Some bytes) front (Some rest) h = h

leaves_line : (input : Option (List ℕ)) (front : List (List ℕ)) (left new : Option (List ℕ))
    (line : List ℕ) → Leaves input front left → LosesLine left new line
    → HasLines input front (line ∷ known_lines new)
leaves_line None front left new line h loses = tt
leaves_line (Some bytes) front None new line h loses = absurd h
leaves_line (Some bytes) front (Some rest) new line h loses =
    h ∙ ap (λ (ls : List (List ℕ)). front ++ ls) (lines_first rest loses.0)
    ∙ ap (λ (l : List ℕ). front ++ l ∷ lines_of (drop_through 10 rest)) (sym loses.1)
    ∙ ap (λ (n : Option (List ℕ)). front ++ line ∷ known_lines n) (sym loses.2)

leaves_more : (input : Option (List ℕ)) (front : List (List ℕ)) (left new : Option (List ℕ))
    (line : List ℕ) → Leaves input front left → LosesLine left new line
    → Leaves input (front ++ line ∷ []) new
leaves_more None front left new line h loses = tt
leaves_more (Some bytes) front None new line h loses = absurd h
leaves_more (Some bytes) front (Some rest) new line h loses =
    subst (λ (n : Option (List ℕ)). Leaves (Some bytes) (front ++ line ∷ []) n) (sym loses.2)
    (h ∙ ap (λ (ls : List (List ℕ)). front ++ ls) (lines_first rest loses.0)
    ∙ ap (λ (l : List ℕ). front ++ l ∷ lines_of (drop_through 10 rest)) (sym loses.1)
    ∙ sym (append_assoc front (line ∷ []) (lines_of (drop_through 10 rest))))

-- this number of lines was executed, and their text was written
pub record IsAt (A : Type 0) (input left before after : Option (List ℕ)) (count : ℕ)
    (now : Store) : Type 0 where
  pub front : List (List ℕ)
  pub text : List ℕ
  pub leaves : Leaves input front left
  pub counted : length front ≡ count
  pub answers : AnswersAll A front (store [] [] (Some 1)) text now
  pub written : Appends before after text

leaves_all : (input : Option (List ℕ)) → Leaves input [] input
leaves_all None = tt
leaves_all (Some bytes) = refl

-- before the first line
pub at_start : (A : Type 0) (input before : Option (List ℕ))
    → IsAt A input input before before 0 (store [] [] (Some 1))
at_start A input before = record {
  front = [];
  text = [];
  leaves = leaves_all input;
  counted = refl;
  answers = (refl, refl);
  written = Appends-nil before;
}

-- after one more line
pub at_more : {X : Type 0} {A : Type 0} {input left new before between after : Option (List ℕ)}
    {count : ℕ} {now next : Store} (line : List ℕ) (x : X)
    → IsAt A input left before between count now → LosesLine left new line
    → LineEnds A (count + 1) line now next between after (Ok x)
    → IsAt A input new before after (count + 1) next
at_more {X} {A} {input} {left} {new} {before} {between} {after} {count} {now} {next} line x here
    loses ended = record {
      front = here.front ++ line ∷ [];
      text = here.text ++ ended.0;
      leaves = leaves_more input here.front left new line here.leaves loses;
      counted = omega (arith, here.counted, length-append here.front (line ∷ []));
      answers = answered_more A here.front line (store [] [] (Some 1)) now next here.text ended.0
          here.answers ended.1;
      written = Appends-trans before between after here.text ended.0 here.written ended.2;
    }

-- the input fails
pub at_failure : {X A : Type 0} {input left before after : Option (List ℕ)} {count : ℕ}
    {now : Store} (r : Result X Stop)
    → r ≡ Err Input → IsAt A input left before after count now → ScriptEnds A input before after r
at_failure {X} {A} {input} {left} {before} {after} {count} {now} r e here =
    let failed : ScriptEnds {X = X} A input before after (Err Input) = (
      here.front,
      known_lines left,
      here.text,
      now,
      record
          { lines = leaves_rest input here.front left here.leaves; answers = here.answers },
      here.written,
    ) in
    subst (λ (r : Result X Stop). ScriptEnds A input before after r) (sym e) failed

-- a line ends the script
stop_at : (X Y : Type 0) {A : Type 0} {input left before between : Option (List ℕ)} {count : ℕ}
    {now : Store} (new after : Option (List ℕ)) (next : Store) (line : List ℕ) (stop : Stop)
    → IsAt A input left before between count now → LosesLine left new line
    → LineEnds {X = X} A (count + 1) line now next between after (Err stop)
    → ScriptEnds {X = Y} A input before after (Err stop)
stop_at X Y {A} {input} {left} {before} {between} {count} {now} new after next line
    (Line n) here loses ended = (
      here.front,
      line,
      known_lines new,
      here.text,
      now,
      record {
        lines = leaves_line input here.front left new line here.leaves loses;
        answers =
            here.answers;
      },
      subst (λ (o : Option (List ℕ)). Appends before o here.text) (sym ended.3) here.written,
      ended.0 ∙ ap (λ (n : ℕ). n + 1) (sym here.counted),
      ended.1,
      ended.2,
    )
stop_at X Y new after next line Input here loses ended = absurd ended
stop_at X Y {A} {input} {left} {before} {between} {count} {now} new after next line Output here
    loses ended = (
      here.front,
      line,
      known_lines new,
      here.text,
      now,
      record {
        lines = leaves_line input here.front left new line here.leaves loses;
        answers =
            here.answers;
      },
      (
        ended.0,
        next,
        ended.1,
        record {
          front = ended.2.front;
          rest = ended.2.rest;
          is =
              ended.2.is;
          appends = Appends-trans before between after here.text ended.2.front here.written
              ended.2.appends;
        },
      ),
    )

pub at_stop : {X Y A : Type 0} {input left before between : Option (List ℕ)} {count : ℕ}
    {now : Store} (r : Result Y Stop) (new after : Option (List ℕ)) (next : Store) (line : List ℕ)
    (stop : Stop) (q : Result X Stop)
    → r ≡ Err stop → q ≡ Err stop → IsAt A input left before between count now
    → LosesLine left new line → LineEnds A (count + 1) line now next between after q
    → ScriptEnds A input before after r
at_stop {X} {Y} {A} {input} {left} {before} {between} {count} {now} r new after next line stop q e f
    here loses ended =
    let line_ended : LineEnds {X = X} A (count + 1) line now next between after (Err stop) =
    subst (λ (q : Result X Stop). LineEnds A (count + 1) line now next between after q) f
    ended in
    subst (λ (r : Result Y Stop). ScriptEnds A input before after r) (sym e)
    (stop_at X Y new after next line stop here loses line_ended)

answers_some : (A : Type 0) (line : List ℕ) (old new : Store) (text : List ℕ) → 0 < length line
    → Prints A line old text new → AnswersLine A line old text new
answers_some A [] old new text h p = absurd (omega arith)
answers_some A (b ∷ bs) old new text h p = p

-- a line whose command was executed, and whose outcome was printed
pub ends_printed : {X A : Type 0} (number : ℕ) (line : List ℕ) (command : Command) (old new : Store)
    (r : Result (Answer A) Failure) (before after : Option (List ℕ)) (result : Result X Stop)
    → 0 < length line → AskFor (words_of line) command → Executes command old r new
    → PrintEnds number (outcome_text r) before after result
    → LineEnds A number line old new before after result
ends_printed {X} {A} number line command old new (Ok answer) before after
    (Ok x) some asked does ends = (
      answer_lines answer,
      answers_some A line old new (answer_lines answer) some
          (Ok answer, (command, asked, does), refl),
      ends,
    )
ends_printed {X} {A} number line command old new (Err (Refused error)) before after
    (Ok x) some asked does ends = (
      refusal_line (number_of error),
      answers_some A line old new
          (refusal_line (number_of error)) some (Err (Refused error), (command, asked, does), refl),
      ends,
    )
ends_printed {X} {A} number line command old new (Ok answer) before after
    (Err stop) some asked does ends =
    let shown : LineEnds {X = X} A number line old new before after (Err Output) =
    (answer_lines answer, (Ok answer, (command, asked, does), refl), ends.1) in
    subst (λ (s : Stop). LineEnds {X = X} A number line old new before after (Err s))
    (sym ends.0) shown
ends_printed {X} {A} number line command old new (Err (Refused error)) before after
    (Err stop) some asked does ends =
    let shown : LineEnds {X = X} A number line old new before after (Err Output) = (
      refusal_line (number_of error),
      (Err (Refused error), (command, asked, does), refl),
      ends.1,
    ) in
    subst (λ (s : Stop). LineEnds {X = X} A number line old new before after (Err s))
    (sym ends.0) shown
ends_printed {X} {A} number line command old new
    (Err BadLine) before after result some asked does ends =
    let fault : LineEnds {X = X} A number line old new before after (Err (Line number)) =
    (refl, some, inr (new, (command, asked, does)), ends.1) in
    subst (λ (r : Result X Stop). LineEnds A number line old new before after r) (sym ends.0) fault

-- whether the line of a stop was written makes no difference
pub reported : {X E : Type 0} (before after : Option (List ℕ)) (stop : Stop) (r : Result X E)
    → ShowsText before after r (stop_line stop) → AppendsFront before after (stop_line stop)
reported before after stop (Ok x) shows = front_all before after (stop_line stop) shows
reported before after stop (Err e) shows = shows

-- flushing the output keeps a text that was written, whether it fails or not
pub shows_kept : {X E : Type 0} (a b c : Option (List ℕ)) (text : List ℕ) (r : Result X E)
    → Appends a b text → Keeps b c → ShowsText a c r text
shows_kept a b c text (Ok x) written kept = kept_behind a b c text written kept
shows_kept a b c text (Err e) written kept = front_all a c text
    (kept_behind a b c text written kept)

-- the result of printing a text
pub ends_shown : {X : Type 0} (number : ℕ) (text : List ℕ) (a b : Option (List ℕ))
    (r : Result X Stop) → ShowsText a b r text → IfErr r (λ stop. stop ≡ Output)
    → PrintEnds number (Some text) a b r
ends_shown number text a b (Ok x) shows stops = shows
ends_shown number text a b (Err stop) shows stops = (stops, shows)

-- it stops at the line, or because the output fails
pub ends_stops : {X : Type 0} (number : ℕ) (text : Option (List ℕ)) (a b : Option (List ℕ))
    (r : Result X Stop) → PrintEnds number text a b r
    → IfErr r (λ stop. (stop ≡ Line number) ⊎ (stop ≡ Output))
ends_stops number None a b (Ok x) ends = tt
ends_stops number None a b (Err stop) ends = let same : stop ≡ Line number = cc (ends.0) in inl same
ends_stops number (Some text) a b (Ok x) ends = tt
ends_stops number (Some text) a b (Err stop) ends = inr ends.0
