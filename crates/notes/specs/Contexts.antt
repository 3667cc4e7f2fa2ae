-- Contexts. Assumes nothing.
use Rattle.std.specs.Prelude.{ℕ, Bool, ◌&&◌, List, ◌++◌, length, Some, Option, nat_le}
use Rattle.std.specs.List.{flat_map, list_all}
use Rattle.bits.specs.Digits.{digits}
use Rattle.bits.specs.Codec.{Reads, field}
use Rattle.texts.specs.Few.{listed}
use Rattle.notes.specs.Readings.{guard, seq, made, times}
use Rattle.calendar.specs.declared.civil.CivilTime.{CivilTime}
use Rattle.notes.specs.Constraints.{list_admits_option, list_covers}
use Rattle.notes.specs.Windows.{window_lawful, window_form, window_reads, window_admits, window_covers}
use Rattle.notes.specs.Blocks.{block_lawful, block_form, block_reads, block_admits, block_covers}
use Rattle.notes.specs.Countries.{country_lawful, country_form, country_reads, country_same}
use Rattle.notes.specs.declared.window.Window.{Window}
use Rattle.notes.specs.declared.block.Address.{Address}
use Rattle.notes.specs.declared.block.Block.{Block}
use Rattle.notes.specs.declared.country.Country.{Country}
use Rattle.notes.specs.declared.context.Context.{Context}
use Rattle.notes.specs.declared.context.Counts.{Counts}

-- what a context says
pub record ContextValue : Type 0 where
  pub windows : List Window
  pub blocks : List Block
  pub countries : List Country

abbrev pub context_of : Context → ContextValue
context_of c = record { windows = listed c.windows; blocks = listed c.blocks; countries = listed c.countries }

-- low to high
abbrev pub within : ℕ → ℕ → ℕ → Bool
within low high n = nat_le low n && nat_le n high

-- fault 2 at a count outside its limits
abbrev pub count_reads : ℕ → ℕ → ℕ → Reads ℕ
count_reads w low high = guard (within low high) 2 (field w)

abbrev pub counts_lawful : ContextValue → Bool
counts_lawful c = within 0 4 (length c.windows) && (within 0 4 (length c.blocks) && within 0 2 (length c.countries))

-- no list is too long, and every item is lawful
abbrev pub context_lawful : ContextValue → Bool
context_lawful c = counts_lawful c && (list_all window_lawful c.windows && (list_all block_lawful c.blocks && list_all country_lawful c.countries))

abbrev pub counts_form : ContextValue → List ℕ
counts_form c = digits 3 (length c.windows) ++ (digits 3 (length c.blocks) ++ digits 2 (length c.countries))

-- the three counts, and then the items
abbrev pub context_form : ContextValue → List ℕ
context_form c = counts_form c ++ (flat_map window_form c.windows ++ (flat_map block_form c.blocks ++ flat_map country_form c.countries))

abbrev pub counts_reads : Reads Counts
counts_reads = made (λ z. record { windows = z.0; blocks = z.1.0; countries = z.1.1 }) (seq (count_reads 3 0 4) (λ _. seq (count_reads 3 0 4) (λ _. count_reads 2 0 2)))

abbrev pub context_reads : Reads ContextValue
context_reads =
    made (λ z. record { windows = z.1.0; blocks = z.1.1.0; countries = z.1.1.1 })
    (seq counts_reads (λ n. seq (times n.windows window_reads) (λ _. seq (times n.blocks block_reads) (λ _. times n.countries country_reads))))

-- for each kind, the list admits the request's value: its time, its address and its country, of which the last two may be
-- missing
abbrev pub context_admits : ContextValue → CivilTime → Option Address → Option Country → Bool
context_admits c time address country =
    list_admits_option window_admits c.windows (Some time)
    && (list_admits_option block_admits c.blocks address && list_admits_option country_same c.countries country)

-- for each kind, the list covers the other's
abbrev pub context_covers : ContextValue → ContextValue → Bool
context_covers c d =
    list_covers window_covers c.windows d.windows
    && (list_covers block_covers c.blocks d.blocks && list_covers country_same c.countries d.countries)
