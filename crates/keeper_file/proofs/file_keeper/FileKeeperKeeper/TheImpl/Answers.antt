use Rattle.keeper_file.proofs.file_keeper.FileKeeperKeeper.TheImpl.Goals as goal

pub attach-tells : goal.attach-tells
attach-tells g c = record {
  attached = c.ensures.attaches.attached;
  stopped = c.ensures.attaches.stopped;
  placed = c.ensures.attaches.placed;
  stays = c.ensures.attaches.stays;
  later = c.ensures.attaches.later;
  cause = c.ensures.attaches.cause;
  calm = c.ensures.attaches.calm;
  honest = c.ensures.attaches.honest;
  given = c.ensures.attaches.given;
  kept = c.ensures.attaches.kept;
  crash = c.ensures.attaches.crash;
  answered = c.ensures.attaches.answered;
  version = c.ensures.attaches.version;
  known = c.ensures.attaches.known;
  alien = c.ensures.attaches.alien;
  same = c.ensures.attaches.same;
  migrated = c.ensures.attaches.migrated;
}
