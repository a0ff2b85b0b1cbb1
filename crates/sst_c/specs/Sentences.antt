-- Sentences that describe the codes.
use Rattle.std.specs.Prelude.{ℕ, ◌==◌, List, [], ◌∷◌, codes, find}
use Rattle.std.specs.Option.{option_map_or}

-- the codes, with a sentence for each
abbrev pub sentences : List (ℕ × List ℕ)
sentences =
    (0, codes "done") ∷
    (1, codes "out of memory") ∷
    (2, codes "a block reaches past the sections") ∷
    (3, codes "invalid block header") ∷
    (4, codes "a block of another kind") ∷
    (5, codes "checksum mismatch") ∷
    (6, codes "invalid block payload") ∷
    (7, codes "key too long") ∷
    (8, codes "value too long") ∷
    (9, codes "block too large") ∷
    (10, codes "section too large") ∷
    (11, codes "invalid trailer") ∷
    (12, codes "missing section") ∷
    (13, codes "missing meta item") ∷
    (14, codes "invalid meta value") ∷
    (15, codes "unsupported table version") ∷
    (16, codes "unsupported hash type") ∷
    (17, codes "unsupported checksum type") ∷
    (18, codes "unsupported index restart interval") ∷
    (19, codes "unsupported compression") ∷
    (20, codes "global sequence number too large") ∷
    (21, codes "sequence number overflow") ∷
    (22, codes "table ids spent") ∷
    (23, codes "the writer has failed") ∷
    (24, codes "source error") ∷
    (100, codes "the handle is closed") ∷
    (101, codes "the handle is open") ∷
    (102, codes "the handle holds another kind") ∷
    (103, codes "the room is too small") ∷
    (104, codes "an entry is out of order") ∷
    (105, codes "there is no such number") ∷
    (106, codes "nothing was found") ∷
    (107, codes "the table is not sound") ∷
    []

-- the sentence of a code
abbrev pub sentence_of : ℕ → List ℕ
sentence_of code =
    option_map_or (λ s. s.1) (find (λ s. s.0 == code) sentences) (codes "unknown refusal")
