-- Guards read from a table's columns. Assumes nothing.
use Rattle.std.proofs.Common.{◌≡◌, ℕ, ◌≤◌, ◌<◌, List}
use Rattle.theory.proofs.Guards.{SomeValue}
use Rattle.table.specs.declared.Location.{Location}
use Rattle.table.specs.declared.Table.{Table}
use Rattle.table.specs.Table.{location_at}
use Rattle.table.specs.Ranged.{HighInWidth}
use Rattle.table.specs.Columns.{entry, low_column, high_column}
use Rattle.table.proofs.Copied.{column_entry}
use Rattle.guards.specs.Children.{guards_over}

pub some_value : (t : Table) (parents lows highs : List ℕ) → lows ≡ low_column t → highs ≡ high_column t → HighInWidth t
    → ((v : ℕ) → 0 < v → v < t.locations → (location_at t v).low ≤ (location_at t v).high) → SomeValue (guards_over parents lows highs t.locations)
some_value t parents lows highs e f widths some v z l =
    let low : entry lows v ≡ (location_at t v).low = rw e (column_entry (λ (l : Location). l.low) t.location v) in
    let high : entry highs v ≡ (location_at t v).high = rw f (column_entry (λ (l : Location). l.high) t.location v) in
    (rw low (rw high (some v z l)), rw high (widths v l))
