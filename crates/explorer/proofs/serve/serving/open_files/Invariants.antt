use Rattle.std.proofs.Common.{◌≡◌, map, take, string_bytes, vec_len, vec_capacity}
use Rattle.explorer.specs.Serve.Workers.{FilesOut, HasLent}
use Rattle.explorer.proofs.serve.serving.open_files.Given as goal

abbrev pub invariant-loop-name : goal.invariant-loop-name
invariant-loop-name g l = record {
  count : vec_len l.list ≡ l.name-index;
  room : vec_capacity l.list ≡ vec_capacity l.fn.list;
  lent : HasLent l.name-index l.fn.cabinet.drawer l.cabinet.drawer;
  same : l.cabinet.ingest ≡ l.fn.cabinet.ingest;
  out : FilesOut g.H.File.Source.source (take l.name-index (map string_bytes l.names)) l.list.items
      (g.H.Host.host l.fn.host) (g.H.Host.host l.host);
}
