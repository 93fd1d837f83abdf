-- What the objects outside tell of themselves (this project's own).
use Rattle.std.specs.Prelude.{◌≡◌, ℕ, List, Option}
use Rattle.pr_io.specs.Causes.{next_fault}
use Rattle.pr_io.specs.declared.outside.Source as source
use Rattle.pr_io.specs.declared.outside.Sink as sink
use Rattle.pr_io.specs.declared.outside.Medium as medium
use Rattle.pr_io.specs.declared.outside.Disk as disk

-- the bytes that are left, where they are told, and how often it has failed (this project's own)
pub record ToldSource : Type 0 where
  pub rest : Option (List ℕ)
  pub faults : ℕ

-- the bytes that were put, where they are told, and how often it has failed (this project's own)
pub record ToldSink : Type 0 where
  pub written : Option (List ℕ)
  pub faults : ℕ

-- the number of blocks, the bytes of each, where they are told, and how often it has failed (this project's own)
pub record ToldMedium : Type 0 where
  pub blocks : ℕ
  pub contents : Option (ℕ → List ℕ)
  pub faults : ℕ

-- how often it has failed (this project's own)
pub record ToldDisk : Type 0 where
  pub faults : ℕ

-- the two streams of a run (this project's own)
pub record ToldStreams : Type 0 where
  pub source : ToldSource
  pub sink : ToldSink

-- all four objects of a run (this project's own)
pub record Told : Type 0 where
  pub streams : ToldStreams
  pub medium : ToldMedium
  pub disk : ToldDisk

abbrev pub told_source : {S : Type 0} → source.Ghosts S → S → ToldSource
told_source of s = record { rest = of.rest s; faults = of.faults s }

abbrev pub told_sink : {K : Type 0} → sink.Ghosts K → K → ToldSink
told_sink of k = record { written = of.written k; faults = of.faults k }

abbrev pub told_medium : {M : Type 0} → medium.Ghosts M → M → ToldMedium
told_medium of m = record { blocks = of.count m; contents = of.contents m; faults = of.faults m }

abbrev pub told_disk : {D : Type 0} → disk.Ghosts D → D → ToldDisk
told_disk of d = record { faults = of.faults d }

abbrev pub told_streams : {S K : Type 0} → source.Ghosts S → sink.Ghosts K → S → K → ToldStreams
told_streams of_source of_sink s k = record { source = told_source of_source s; sink = told_sink of_sink k }

abbrev pub told : {S K M D : Type 0} → source.Ghosts S → sink.Ghosts K → medium.Ghosts M → disk.Ghosts D → S → K → M → D → Told
told of_source of_sink of_medium of_disk s k m d =
    record { streams = told_streams of_source of_sink s k; medium = told_medium of_medium m; disk = told_disk of_disk d }

-- which of the two streams failed, once: neither, the source, or the sink (this project's own)
abbrev pub NoneFailed : ToldStreams → ToldStreams → Type 0
NoneFailed before after = (after.source.faults ≡ before.source.faults) × (after.sink.faults ≡ before.sink.faults)

abbrev pub SourceFailed : ToldStreams → ToldStreams → Type 0
SourceFailed before after = (after.source.faults ≡ next_fault before.source.faults) × (after.sink.faults ≡ before.sink.faults)

abbrev pub SinkFailed : ToldStreams → ToldStreams → Type 0
SinkFailed before after = (after.source.faults ≡ before.source.faults) × (after.sink.faults ≡ next_fault before.sink.faults)
