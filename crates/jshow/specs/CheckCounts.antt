-- How much was checked: how many classes, and how many methods of them.
use Rattle.std.specs.Prelude.{ℕ, List, ◌++◌, codes, decimal}
use Rattle.std.specs.List.{count_by, sum_by}
use Rattle.jresolution.specs.declared.jprogram.part.CodePart.{CodePart}
use Rattle.jresolution.specs.jprogram.ClassFileParts.{has_code}

-- how many methods of a class have code
abbrev pub methods_in : CodePart → ℕ
methods_in part = count_by has_code part.class.methods

-- how many methods of all classes have code
abbrev pub methods_of : List CodePart → ℕ
methods_of parts = sum_by methods_in parts

-- the line of a program that is checked: how many classes it has, and how many of their methods have code
abbrev pub checked_line : ℕ → ℕ → List ℕ
checked_line classes methods = codes "checked " ++ (decimal classes ++ (codes " classes " ++ (decimal methods ++ codes " methods\n")))
