-- Files that are numbered, one after another.
use Rattle.std.proofs.Common.{◌≡◌, refl, sym, ◌∙◌, ap, ℕ, zero, suc, ◌+◌, ◌<◌, List, [], ◌∷◌, ◌++◌}
use Rattle.std.proofs.Common.{arith, get_or, length, take}
use Rattle.std.specs.Prelude.{map}
use Rattle.std.proofs.lemmas.List.{length-map, length-take-le, map-append, take_more}
use Rattle.sst_tool.specs.declared.files.write.NewFile.{NewFile}
use Rattle.sst_tool.specs.files.Files.{path_text}
use Rattle.sst_tool.specs.files.Numbered.{named_bytes, numbered_files}

-- one more at the end
pub files_behind : (path : ℕ → List ℕ) (number : ℕ) (all : List (List ℕ)) (bytes : List ℕ)
    → numbered_files path number (all ++ bytes ∷ [])
    ≡ numbered_files path number all ++ (path (number + length all), bytes) ∷ []
files_behind path number [] bytes =
    let none : number ≡ number + 0 = omega arith in
    ap (λ (n : ℕ). (path n, bytes) ∷ []) none
files_behind path number (x ∷ all) bytes =
    let more : suc number + length all ≡ number + length (x ∷ all) = omega arith in
    ap (λ (l : List (List ℕ × List ℕ)). (path number, x) ∷ l)
    (files_behind path (suc number) all bytes
    ∙ ap (λ (n : ℕ). numbered_files path (suc number) all ++ (path n, bytes) ∷ []) more)

-- so it is as the files are listed
pub files_more : {X : Type 0} (bytes_of : X → List ℕ) (path : ℕ → List ℕ) (xs : List X) (i : ℕ)
    (x : X) (wanted : List NewFile) (file : NewFile) (number : ℕ) → i < length xs
    → x ≡ get_or xs i x
    → map named_bytes wanted ≡ numbered_files path 1 (map bytes_of (take i xs))
    → number ≡ 1 + i → path_text file.name ≡ path number → file.bytes.now ≡ bytes_of x
    → map named_bytes (wanted ++ file ∷ [])
    ≡ numbered_files path 1 (map bytes_of (take (i + 1) xs))
files_more {X} bytes_of path xs i x wanted file number less here so_far counted named held =
    let all : List (List ℕ) = map bytes_of (take i xs) in
    let more : take (i + 1) xs ≡ take i xs ++ x ∷ [] =
    take_more xs i x less ∙ ap (λ (y : X). take i xs ++ y ∷ []) (sym here) in
    let long : length all ≡ i =
    length-map (take i xs) bytes_of ∙ length-take-le i xs (omega (arith, less)) in
    let at : number ≡ 1 + length all = omega (arith, counted, long) in
    map-append named_bytes wanted (file ∷ [])
    ∙ ap (λ (l : List (List ℕ × List ℕ)). l ++ named_bytes file ∷ []) so_far
    ∙ ap (λ (n : List ℕ). numbered_files path 1 all ++ (n, file.bytes.now) ∷ []) named
    ∙ ap (λ (b : List ℕ). numbered_files path 1 all ++ (path number, b) ∷ []) held
    ∙ ap (λ (n : ℕ). numbered_files path 1 all ++ (path n, bytes_of x) ∷ []) at
    ∙ sym (files_behind path 1 all (bytes_of x))
    ∙ ap (λ (l : List (List ℕ)). numbered_files path 1 l)
    (sym (ap (map bytes_of) more ∙ map-append bytes_of (take i xs) (x ∷ [])))

-- as many files as there are bytes
pub files_long : (path : ℕ → List ℕ) (number : ℕ) (all : List (List ℕ))
    → length (numbered_files path number all) ≡ length all
files_long path number [] = refl
files_long path number (bytes ∷ all) =
    ap (λ (n : ℕ). suc n) (files_long path (suc number) all)

-- the path of each
pub file_named : (path : ℕ → List ℕ) (number : ℕ) (all : List (List ℕ)) (i : ℕ)
    (d : List ℕ × List ℕ) → i < length all
    → (get_or (numbered_files path number all) i d).0 ≡ path (number + i)
file_named path number [] i d less = absurd (omega (arith, less))
file_named path number (bytes ∷ all) zero d less =
    let same : number ≡ number + 0 = omega arith in
    ap path same
file_named path number (bytes ∷ all) (suc i) d less =
    let same : suc number + i ≡ number + suc i = omega arith in
    file_named path (suc number) all i d (omega (arith, less)) ∙ ap path same

-- paths that are the same number by number
pub same_files : (path other : ℕ → List ℕ) → ((n : ℕ) → path n ≡ other n) → (number : ℕ)
    (all : List (List ℕ)) → numbered_files path number all ≡ numbered_files other number all
same_files path other same number [] = refl
same_files path other same number (bytes ∷ all) =
    ap (λ (p : List ℕ). (p, bytes) ∷ numbered_files path (suc number) all) (same number)
    ∙ ap (λ (l : List (List ℕ × List ℕ)). (other number, bytes) ∷ l)
    (same_files path other same (suc number) all)
