-- How a script ends.
use Rattle.std.specs.Prelude.{ℕ, List, [], ◌∷◌, ◌++◌, codes}
use Rattle.std.specs.Fmt.{decimal}
use Rattle.sst_script.specs.declared.stop.Stop.{Stop}
use Rattle.sst_script.specs.declared.stop.Stop.TheVariants.{Line, Input, Output}

-- the line reported for a script that ends early: the number of the line at fault, or the stream
-- that failed
abbrev pub stop_line : Stop → List ℕ
stop_line (Line n) = codes "sst: line " ++ decimal n ++ 10 ∷ []
stop_line Input = codes "sst: input" ++ 10 ∷ []
stop_line Output = codes "sst: output" ++ 10 ∷ []
