-- What is written of one record, in the words of the calls that make it.
use Rattle.std.proofs.Common.{◌≡◌, ◌∙◌, ℕ, List, ◌++◌, Result, OnOk, Option, ap}
use Rattle.std.proofs.lemmas.Result.{on_ok_weaker}
use Rattle.csv.specs.Writing.{row_text}
use Rattle.csv.specs.declared.writer.WriterBuilder.{WriterBuilder}
use Rattle.osn_days.specs.Rules.{Rules}
use Rattle.osn_grammar.specs.declared.text_reading.DateOrder.{DateOrder}
use Rattle.osn_register.specs.Plain.{EntryModel}
use Rattle.osn_letters.specs.declared.separator.Separator.{Separator}
use Rattle.osn_letters.specs.Fields.{row_fields}
use Rattle.osn_letters.specs.PlaceEntries.{PlaceEntry}
use Rattle.osn_letters.specs.Separators.{writer_by}

-- a record that is written as what it is
pub written_as : (w : WriterBuilder) (new old : List ℕ) (a b : List (List ℕ)) → a ≡ b
    → new ≡ old ++ row_text w a → new ≡ old ++ row_text w b
written_as w new old a b e is = is ∙ ap (λ fs. old ++ row_text w fs) e

-- a record that is written as what it is, after the writer got another separator
pub written_by : {T E : Type 0} (r : Result T E) (x y : Separator) (new middle old : List ℕ)
    (a b : List (List ℕ)) → x ≡ y → middle ≡ old → a ≡ b
    → OnOk r (new ≡ middle ++ row_text (writer_by x) a)
    → OnOk r (new ≡ old ++ row_text (writer_by y) b)
written_by r x y new middle old a b same old_is e h =
    on_ok_weaker r (λ is. is ∙ ap (λ l. l ++ row_text (writer_by x) a) old_is
    ∙ ap (λ z. old ++ row_text (writer_by z) a) same
    ∙ ap (λ fs. old ++ row_text (writer_by y) fs) e) h

-- the fields by the fields that are read
pub same_fields : (p : Rules) (territories : List EntryModel) (edition : ℕ) (o : DateOrder)
    (places : List PlaceEntry) (a b date : List ℕ) (v w : Option (List ℕ)) → a ≡ b → v ≡ w
    → row_fields p territories edition o places a date v
    ≡ row_fields p territories edition o places b date w
same_fields p territories edition o places a b date v w e1 e2 =
    ap (λ x. row_fields p territories edition o places x date v) e1
    ∙ ap (λ x. row_fields p territories edition o places b date x) e2
