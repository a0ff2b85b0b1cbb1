-- The forms of a script's lines.
use Rattle.std.specs.Prelude.{◌≡◌, ℕ, ◌<◌, ◌==◌, Bool, true, false, List, [], ◌∷◌, length, nat_eq}
use Rattle.std.specs.Prelude.{codes, if◌then◌else◌, Option, Some, None}
use Rattle.std.specs.Char.{is_ascii_graphic}
use Rattle.std.specs.Cmp.Lexicographic.{pointwise}
use Rattle.std.specs.List.{list_all, slice_split}
use Rattle.std.specs.Str.Parse.{digits_value}
use Rattle.sst_entries.specs.declared.value_type.ValueType.{ValueType}
use Rattle.sst_script.specs.declared.command.Command.{Command}
use Rattle.std.specs.declared.ops.Bound.{Bound}
use Rattle.std.specs.declared.ops.Bound.TheVariants.{Included, Excluded, Unbounded}
use Rattle.lsm_sorted.specs.version.KeyRange.{key_bound}
use Rattle.sst_script.specs.declared.command.Command.TheVariants.{Entry, Table, Get, Range}
use Rattle.sst_script.specs.declared.command.Command.TheVariants.{Compact, Pack}
use Rattle.sst_script.specs.Text.{letter_of, IsNumber}

-- the parts of a line between its spaces
abbrev pub words_of : List ℕ → List (List ℕ)
words_of line = slice_split (λ b. b == 32) line

-- the words after a space, if there is one
abbrev pub words_behind : Option (List ℕ) → List (List ℕ)
words_behind None = []
words_behind (Some rest) = words_of rest

-- the text of a word: - for no bytes, any other word for itself
abbrev pub text_of : List ℕ → List ℕ
text_of word = if pointwise nat_eq word (45 ∷ []) then [] else word

-- a word of visible bytes, and its text
pub record StandsFor (word text : List ℕ) : Type 0 where
  pub some : 0 < length word
  pub visible : list_all is_ascii_graphic word ≡ true
  pub text_is : text ≡ text_of word

-- a word of a number, and the number
pub record Counts (word : List ℕ) (n : ℕ) : Type 0 where
  pub number : IsNumber word
  pub value_is : n ≡ digits_value 10 word

-- the words of a line that adds an entry
pub record AddsEntry (words : List (List ℕ)) (key : List ℕ) (seqno : ℕ) (kind : ValueType)
    (value : List ℕ) : Type 0 where
  pub key_word : List ℕ
  pub number_word : List ℕ
  pub value_word : List ℕ
  pub words_are : words ≡
      codes "entry" ∷ key_word ∷ number_word ∷ (letter_of kind ∷ []) ∷ value_word ∷ []
  pub key_is : StandsFor key_word key
  pub seqno_is : Counts number_word seqno
  pub value_is : StandsFor value_word value

-- the words of a line that reads a key
pub record ReadsKey (words : List (List ℕ)) (key : List ℕ) (bound : ℕ) : Type 0 where
  pub key_word : List ℕ
  pub number_word : List ℕ
  pub words_are : words ≡ codes "get" ∷ key_word ∷ number_word ∷ []
  pub key_is : StandsFor key_word key
  pub bound_is : Counts number_word bound

-- the word of a bound: * for none, else = before a key that is included, or ! before one that is
-- not
abbrev pub Limits : List ℕ → Bound (List ℕ) → Type 0
Limits word (Included key) = (text : List ℕ) × (word ≡ 61 ∷ text) × StandsFor text key
Limits word (Excluded key) = (text : List ℕ) × (word ≡ 33 ∷ text) × StandsFor text key
Limits word Unbounded = word ≡ 42 ∷ []

-- the words of a line that reads the keys within two bounds
pub record ReadsRange (words : List (List ℕ)) (low high : Bound (List ℕ)) : Type 0 where
  pub low_word : List ℕ
  pub high_word : List ℕ
  pub words_are : words ≡ codes "range" ∷ low_word ∷ high_word ∷ []
  pub low_is : Limits low_word low
  pub high_is : Limits high_word high

-- the words after a watermark: whether tombstones are evicted, and whether seqnos become 0
abbrev pub setting_words : Bool → Bool → List (List ℕ)
setting_words false false = []
setting_words true false = codes "evict" ∷ []
setting_words false true = codes "zero" ∷ []
setting_words true true = codes "evict" ∷ codes "zero" ∷ []

-- the words of a line that compacts the runs
pub record CompactsBy (words : List (List ℕ)) (watermark : ℕ) (evict zero : Bool) : Type 0 where
  pub number_word : List ℕ
  pub words_are : words ≡ codes "compact" ∷ number_word ∷ setting_words evict zero
  pub watermark_is : Counts number_word watermark

-- the words of a line are a command
abbrev pub AskFor : List (List ℕ) → Command → Type 0
AskFor words (Entry key seqno kind value) = AddsEntry words key.now seqno kind value.now
AskFor words Table = words ≡ codes "table" ∷ []
AskFor words (Get key bound) = ReadsKey words key.now bound
AskFor words (Range low high) = ReadsRange words (key_bound low) (key_bound high)
AskFor words (Compact watermark evict zero) = CompactsBy words watermark evict zero
AskFor words Pack = words ≡ codes "pack" ∷ []
