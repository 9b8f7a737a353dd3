-- The first line of a page, which has the territory and the edition, and its last line, if edits
-- are not published yet. This project's profile.
use Rattle.std.specs.Prelude.{ℕ, ◌==◌, if◌then◌else◌, List, [], ◌++◌, codes}
use Rattle.std.specs.Fmt.{decimal}

-- the territory and the edition: Great Britain (GB), edition 5
unfoldable pub territory_heading : List ℕ → List ℕ → ℕ → List ℕ
territory_heading name code edition =
    name ++ (codes " (" ++ (code ++ (codes "), edition " ++ (decimal edition ++ codes "\n"))))

-- what the page is of, and then the territory and the edition: 11 February 1731/2 in Great Britain
-- (GB), edition 5
unfoldable pub heading : List ℕ → List ℕ → List ℕ → ℕ → List ℕ
heading subject name code edition = subject ++ (codes " in " ++ territory_heading name code edition)

-- how many edits are not published yet, if any
unfoldable pub pending_line : ℕ → List ℕ
pending_line count =
    if count == 0 then []
    else (if count == 1 then codes "1 edit is not published yet\n"
    else decimal count ++ codes " edits are not published yet\n")
